use Rattle.lucy_expr.proofs.TreeLaws.{spine_begins}
use Rattle.lucy_expr.proofs.laws.spine_begins_with_itself.Goals as goal

pub returns : goal.returns
returns c = spine_begins
