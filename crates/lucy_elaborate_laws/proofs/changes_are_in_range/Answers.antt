use Rattle.lucy_elaborate_laws.proofs.Changes.{sets_in_range}
use Rattle.lucy_elaborate_laws.proofs.changes_are_in_range.Goals as goal

pub returns : goal.returns
returns c = λ scope params changes sets fields arguments e. sets_in_range scope params fields arguments changes sets e
