use Rattle.lucy_core.proofs.Reading.{thaw_changes}
use Rattle.lucy_core.proofs.laws.thaw_changes_its_replica.Goals as goal

pub returns : goal.returns
returns c = thaw_changes
