use Rattle.lucy_meaning_laws.proofs.NamedTerms.{assigned_named}
use Rattle.lucy_meaning_laws.proofs.assigned_is_named.Goals as goal

pub returns : goal.returns
returns c = λ scope params given term e. assigned_named scope params given term e
