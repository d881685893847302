use Rattle.std.proofs.Common.{◌≡◌, drop, take, []}
use Rattle.lucy_plan.specs.Faults.{again_fault}
use Rattle.lucy_plan.proofs.checks.test_again.Given as goal

abbrev pub invariant-loop-i : goal.invariant-loop-i
invariant-loop-i l = again_fault [] l.sets ≡ again_fault (take l.i l.sets) (drop l.i l.sets)
