use Rattle.lucy_expr.proofs.TreeLaws.{whole_holds}
use Rattle.lucy_expr.proofs.laws.closed_whole_holds_values.Goals as goal

pub returns : goal.returns
returns c = whole_holds
