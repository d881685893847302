use Rattle.lucy_normal.proofs.Clauses.{clauses_can_hold}
use Rattle.lucy_normal.proofs.laws.clauses_can_hold.Goals as goal

pub returns : goal.returns
returns c = clauses_can_hold
