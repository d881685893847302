use Rattle.std.proofs.Common.{◌+◌, ◌*◌}
use Rattle.lucy_session.proofs.expressions.+expressions.Given as goal

abbrev pub decreases-read_apply : goal.decreases-read_apply
decreases-read_apply l = 2 * l.depth

abbrev pub decreases-read_expr : goal.decreases-read_expr
decreases-read_expr l = 2 * l.depth + 1

abbrev pub decreases-read_merge : goal.decreases-read_merge
decreases-read_merge l = 2 * l.depth
