use Rattle.lucy_expr.proofs.TreeLaws.{reach_covers}
use Rattle.lucy_expr.proofs.laws.reach_covers_ids.Goals as goal

pub returns : goal.returns
returns c = reach_covers
