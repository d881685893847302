use Rattle.std.proofs.Common.{◌+◌, ◌*◌}
use Rattle.lucy_walks.specs.Sketches.{tree_of, size}
use Rattle.lucy_session.proofs.evaluation.+evaluation.Given as goal

abbrev pub decreases-value_of : goal.decreases-value_of
decreases-value_of l = 2 * size (tree_of l.sketch.now)

abbrev pub decreases-value_of_call : goal.decreases-value_of_call
decreases-value_of_call l = 2 * size (tree_of l.inner.now) + 1

abbrev pub decreases-value_of_merge : goal.decreases-value_of_merge
decreases-value_of_merge l = 2 * (size (tree_of l.left.now) + size (tree_of l.right.now)) + 1
