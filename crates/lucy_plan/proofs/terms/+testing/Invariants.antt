use Rattle.std.proofs.Common.{◌≡◌, drop}
use Rattle.std.specs.Prelude.{map}
use Rattle.lucy_plan.specs.Faults.{first_of, condition_fault}
use Rattle.lucy_plan.proofs.terms.+testing.Given as goal

abbrev pub invariant-test_conditions-loop-part : goal.invariant-test_conditions-loop-part
invariant-test_conditions-loop-part l = first_of (map (condition_fault l.rule l.leaves l.arguments) l.parts) ≡ first_of (map (condition_fault l.rule l.leaves l.arguments) (drop l.part-index l.parts))
