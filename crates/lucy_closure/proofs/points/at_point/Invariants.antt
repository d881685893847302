use Rattle.std.proofs.Common.{◌≡◌, ◌++◌, ◌+◌, drop}
use Rattle.lucy_closure.specs.Points.{on_leaves}
use Rattle.lucy_closure.proofs.points.at_point.Given as goal

abbrev pub invariant-loop-leaf : goal.invariant-loop-leaf
invariant-loop-leaf l = on_leaves l.at.first l.point ≡ l.parts ++ on_leaves (l.at.first + l.leaf) (drop l.leaf l.point)
