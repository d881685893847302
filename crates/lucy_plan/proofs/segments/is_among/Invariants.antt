use Rattle.std.proofs.Common.{◌≡◌, drop}
use Rattle.lucy_plan.specs.Segments.{is_among}
use Rattle.lucy_plan.proofs.segments.is_among.Given as goal

abbrev pub invariant-loop-point : goal.invariant-loop-point
invariant-loop-point l = is_among l.points l.raw ≡ is_among (drop l.point-index l.points) l.raw
