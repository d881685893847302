use Rattle.lucy_clauses.proofs.Uniqueness.{twice}
use Rattle.lucy_clauses.proofs.laws.complement_twice.Goals as goal

pub returns : goal.returns
returns c = twice
