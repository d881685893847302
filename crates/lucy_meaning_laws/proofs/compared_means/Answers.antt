use Rattle.lucy_meaning_laws.proofs.Terms.{compared_value}
use Rattle.lucy_meaning_laws.proofs.compared_means.Goals as goal

pub returns : goal.returns
returns c = λ scope params left right term e xs arguments of. compared_value scope params xs arguments left right term e of
