use Rattle.lucy_expr.specs.Shapes.{size_of_all}
use Rattle.lucy_expr.proofs.nodes.let_go.Given as goal

abbrev pub decreases-loop-next : goal.decreases-loop-next
decreases-loop-next l = size_of_all l.waiting.items
