use Rattle.std.proofs.Common.{◌≡◌, drop}
use Rattle.lucy_plan.specs.Calls.{are_arguments}
use Rattle.lucy_plan.proofs.calls.are_arguments.Given as goal

abbrev pub invariant-loop-i : goal.invariant-loop-i
invariant-loop-i l = are_arguments l.params l.arguments ≡ are_arguments (drop l.i l.params) (drop l.i l.arguments)
