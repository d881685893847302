use Rattle.std.proofs.Common.{◌≡◌, drop}
use Rattle.lucy_plan.specs.Faults.{points_fault}
use Rattle.lucy_plan.proofs.checks.test_points.Given as goal

abbrev pub invariant-loop-i : goal.invariant-loop-i
invariant-loop-i l = points_fault 0 l.object l.segments ≡ points_fault l.i l.object (drop l.i l.segments)
