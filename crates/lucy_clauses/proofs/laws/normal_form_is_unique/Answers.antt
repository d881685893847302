use Rattle.lucy_clauses.proofs.Uniqueness.{form_unique}
use Rattle.lucy_clauses.proofs.laws.normal_form_is_unique.Goals as goal

pub returns : goal.returns
returns c = form_unique
