use Rattle.lucy_normal.proofs.Narrowness.{clauses_are_narrow}
use Rattle.lucy_normal.proofs.laws.clauses_are_narrow.Goals as goal

pub returns : goal.returns
returns c = clauses_are_narrow
