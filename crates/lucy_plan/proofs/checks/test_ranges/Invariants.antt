use Rattle.std.proofs.Common.{◌≡◌, drop}
use Rattle.lucy_plan.specs.Faults.{range_fault}
use Rattle.lucy_plan.proofs.checks.test_ranges.Given as goal

abbrev pub invariant-loop-i : goal.invariant-loop-i
invariant-loop-i l = range_fault 0 l.object l.start ≡ range_fault l.i (drop l.i l.object) (drop l.i l.start)
