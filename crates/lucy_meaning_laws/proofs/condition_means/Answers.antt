use Rattle.lucy_meaning_laws.proofs.Conditions.{condition_value}
use Rattle.lucy_meaning_laws.proofs.condition_means.Goals as goal

pub returns : goal.returns
returns c = λ scope params given n m made e xs arguments of. condition_value scope params xs arguments of given n m made e
