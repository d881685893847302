use Rattle.std.proofs.Common.{◌≡◌, drop}
use Rattle.std.specs.Prelude.{map}
use Rattle.lucy_plan.specs.Faults.{first_of, branch_twice_fault}
use Rattle.lucy_plan.proofs.checks.test_twice.Given as goal

abbrev pub invariant-loop-branch : goal.invariant-loop-branch
invariant-loop-branch l = first_of (map branch_twice_fault l.branches) ≡ first_of (map branch_twice_fault (drop l.branch-index l.branches))
