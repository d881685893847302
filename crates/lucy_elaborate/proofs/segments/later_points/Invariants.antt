use Rattle.std.proofs.Common.{◌≡◌, drop}
use Rattle.std.specs.Prelude.{[], ◌∷◌}
use Rattle.lucy_elaborate.specs.Segments.{later_points}
use Rattle.lucy_elaborate.proofs.segments.later_points.Given as goal

abbrev pub invariant-loop-other : goal.invariant-loop-other
invariant-loop-other l = later_points l.leaves (drop l.other-index l.others) l.found l.count ≡ later_points l.leaves l.others (l.fn.first ∷ []) l.fn.count
