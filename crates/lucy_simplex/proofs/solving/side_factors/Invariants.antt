use Rattle.std.proofs.Common.{◌≡◌, take, map}
use Rattle.lucy_simplex.specs.First.{dense}
use Rattle.lucy_simplex.specs.Sure.{side_part}
use Rattle.lucy_simplex.proofs.solving.side_factors.Given as goal

abbrev pub invariant-loop-variable : goal.invariant-loop-variable
invariant-loop-variable l = l.all.items ≡ take l.variable (dense l.count (map (side_part l.side) l.parts))
