use Rattle.lucy_meaning_laws.proofs.Terms.{assigned_value}
use Rattle.lucy_meaning_laws.proofs.assigned_means.Goals as goal

pub returns : goal.returns
returns c = λ scope params given term e xs arguments of. assigned_value scope params xs arguments given term e of
