use Rattle.std.proofs.Common.{◌≡◌, ◌++◌, drop}
use Rattle.lucy_solver.specs.Spans.{whole}
use Rattle.lucy_solver.proofs.halves.whole.Given as goal

abbrev pub invariant-loop-i : goal.invariant-loop-i
invariant-loop-i l = l.all.items ++ whole l.i (drop l.i l.range-items) ≡ whole 0 l.formula.ranges
