use Rattle.lucy_expr.proofs.TreeLaws.{segment_holds}
use Rattle.lucy_expr.proofs.laws.closed_segment_holds_values.Goals as goal

pub returns : goal.returns
returns c = segment_holds
