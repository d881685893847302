use Rattle.lucy_meaning_laws.proofs.NamedConditions.{conditions_named}
use Rattle.lucy_meaning_laws.proofs.condition_is_named.Goals as goal

pub returns : goal.returns
returns c = λ scope params given n m made e. conditions_named scope params given n m made e
