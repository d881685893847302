use Rattle.lucy_expr.proofs.TreeLaws.{spine_ends}
use Rattle.lucy_expr.proofs.laws.spine_ends_with_start.Goals as goal

pub returns : goal.returns
returns c = spine_ends
