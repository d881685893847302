use Rattle.lucy_clauses.proofs.Justified.{lines_hold}
use Rattle.lucy_clauses.proofs.laws.justified_lines_hold.Goals as goal

pub returns : goal.returns
returns c = lines_hold
