use Rattle.lucy_core.proofs.Reading.{submit_changes}
use Rattle.lucy_core.proofs.laws.submit_changes_its_replica.Goals as goal

pub returns : goal.returns
returns c = submit_changes
