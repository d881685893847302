use Rattle.std.proofs.Common.{◌≡◌, ◌++◌, ◌+◌, drop}
use Rattle.lucy_closure.specs.Points.{off_leaves, are_numbers}
use Rattle.lucy_closure.proofs.points.off_point.Given as goal

abbrev pub invariant-loop-leaf : goal.invariant-loop-leaf
invariant-loop-leaf l =
    (off_leaves l.at.first l.point ≡ l.parts ++ off_leaves (l.at.first + l.leaf) (drop l.leaf l.point))
    × (are_numbers l.point ≡ are_numbers (drop l.leaf l.point))
