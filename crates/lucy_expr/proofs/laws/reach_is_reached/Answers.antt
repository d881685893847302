use Rattle.lucy_expr.proofs.TreeLaws.{reach_reached}
use Rattle.lucy_expr.proofs.laws.reach_is_reached.Goals as goal

pub returns : goal.returns
returns c = reach_reached
