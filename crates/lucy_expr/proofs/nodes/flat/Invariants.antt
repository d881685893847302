use Rattle.std.proofs.Common.{◌≡◌, ◌++◌, length}
use Rattle.lucy_expr.specs.Trees.{turns}
use Rattle.lucy_expr.specs.Shapes.{tree_of, turns_of_all}
use Rattle.lucy_expr.proofs.nodes.flat.Given as goal

abbrev pub invariant-loop-next : goal.invariant-loop-next
invariant-loop-next l = l.turns.items ++ turns_of_all l.stack.items ≡ turns (tree_of l.fn.node)

abbrev pub decreases-loop-next : goal.decreases-loop-next
decreases-loop-next l = length (turns_of_all l.stack.items)
