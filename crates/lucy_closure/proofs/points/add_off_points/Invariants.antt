use Rattle.std.proofs.Common.{◌≡◌, ◌++◌, drop, map, true}
use Rattle.lucy_closure.specs.Points.{off_point, are_points, all_numbers}
use Rattle.lucy_closure.proofs.points.add_off_points.Given as goal

abbrev pub invariant-loop-point : goal.invariant-loop-point
invariant-loop-point l =
    (l.fn.parts ++ map (off_point l.at.first) l.points ≡ l.parts ++ map (off_point l.at.first) (drop l.point-index l.points))
    × (are_points l.at.leaves (drop l.point-index l.points) ≡ true)
    × (all_numbers l.points ≡ all_numbers (drop l.point-index l.points))
