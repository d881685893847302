use Rattle.lucy_expr.proofs.TreeLaws.{spine_in_tree}
use Rattle.lucy_expr.proofs.laws.spine_is_in_tree.Goals as goal

pub returns : goal.returns
returns c = spine_in_tree
