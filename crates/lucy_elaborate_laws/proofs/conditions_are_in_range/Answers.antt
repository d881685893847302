use Rattle.lucy_elaborate_laws.proofs.Conditions.{conditions_in_range}
use Rattle.lucy_elaborate_laws.proofs.conditions_are_in_range.Goals as goal

pub returns : goal.returns
returns c = λ scope params given n m made fields arguments e. conditions_in_range scope params fields arguments given n m made e
