use Rattle.std.proofs.Common.{◌≡◌, drop}
use Rattle.lucy_closure.specs.Readings.{comes_before}
use Rattle.lucy_closure.proofs.reading.comes_before.Given as goal

abbrev pub invariant-loop-i : goal.invariant-loop-i
invariant-loop-i l = comes_before l.left l.right ≡ comes_before (drop l.i l.left) (drop l.i l.right)
