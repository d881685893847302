use Rattle.std.proofs.Common.{◌≡◌, ◌++◌, drop, map, true}
use Rattle.lucy_normal.specs.Flat.{flat_any}
use Rattle.lucy_closure.specs.Points.{at_point, are_points}
use Rattle.lucy_closure.proofs.points.add_at_points.Given as goal

abbrev pub invariant-loop-point : goal.invariant-loop-point
invariant-loop-point l =
    (l.fn.flat ++ flat_any (map (at_point l.at.first) l.points) ≡ l.flat ++ flat_any (map (at_point l.at.first) (drop l.point-index l.points)))
    × (are_points l.at.leaves (drop l.point-index l.points) ≡ true)
