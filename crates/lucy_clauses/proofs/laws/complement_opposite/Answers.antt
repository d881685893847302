use Rattle.lucy_clauses.proofs.Solutions.{complement_opposite}
use Rattle.lucy_clauses.proofs.laws.complement_opposite.Goals as goal

pub returns : goal.returns
returns c = λ a t. complement_opposite t a
