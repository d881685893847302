use Rattle.lucy_elaborate_laws.proofs.Gathering.{compared_in_range}
use Rattle.lucy_elaborate_laws.proofs.terms_are_in_range.Goals as goal

pub returns : goal.returns
returns c = λ scope params left right term e. compared_in_range scope params left right term e
