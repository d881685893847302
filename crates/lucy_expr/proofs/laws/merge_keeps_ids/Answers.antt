use Rattle.lucy_expr.proofs.TreeLaws.{merge_ids}
use Rattle.lucy_expr.proofs.laws.merge_keeps_ids.Goals as goal

pub returns : goal.returns
returns c = merge_ids
