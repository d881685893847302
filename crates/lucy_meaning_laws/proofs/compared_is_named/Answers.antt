use Rattle.lucy_meaning_laws.proofs.NamedTerms.{compared_named}
use Rattle.lucy_meaning_laws.proofs.compared_is_named.Goals as goal

pub returns : goal.returns
returns c = λ scope params left right term e. compared_named scope params left right term e
