use Rattle.std.proofs.Common.{◌≡◌, drop}
use Rattle.lucy_model.specs.Ranges.{all_allowed}
use Rattle.lucy_plan.proofs.segments.are_allowed.Given as goal

abbrev pub invariant-loop-i : goal.invariant-loop-i
invariant-loop-i l = all_allowed l.object l.raw ≡ all_allowed (drop l.i l.object) (drop l.i l.raw)
