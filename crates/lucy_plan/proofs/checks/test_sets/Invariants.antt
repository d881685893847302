use Rattle.std.proofs.Common.{◌≡◌, drop}
use Rattle.std.specs.Prelude.{map}
use Rattle.lucy_plan.specs.Faults.{first_of, set_fault}
use Rattle.lucy_plan.proofs.checks.test_sets.Given as goal

abbrev pub invariant-loop-change : goal.invariant-loop-change
invariant-loop-change l = first_of (map (set_fault l.rule l.leaves l.arguments) l.sets) ≡ first_of (map (set_fault l.rule l.leaves l.arguments) (drop l.change-index l.sets))
