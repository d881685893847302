use Rattle.lucy_normal.proofs.Clauses.{clauses_say}
use Rattle.lucy_normal.proofs.laws.clauses_say.Goals as goal

pub returns : goal.returns
returns c = clauses_say
