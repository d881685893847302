use Rattle.lucy_elaborate_laws.proofs.Gathering.{assigned_in_range}
use Rattle.lucy_elaborate_laws.proofs.assigned_are_in_range.Goals as goal

pub returns : goal.returns
returns c = λ scope params given term e. assigned_in_range scope params given term e
