use Rattle.std.proofs.Common.{◌≡◌}
use Rattle.lucy_expr.specs.Trees.{depth}
use Rattle.lucy_tests.proofs.expr_rows.chain.Given as goal

abbrev pub invariant-loop-count : goal.invariant-loop-count
invariant-loop-count l = (depth l.expr.tree ≡ l.count) × (l.expr.room ≡ 1)
