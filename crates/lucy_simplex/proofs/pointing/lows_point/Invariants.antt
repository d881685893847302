use Rattle.std.proofs.Common.{[], take}
use Rattle.lucy_simplex.specs.Systems.{lows_of}
use Rattle.lucy_simplex.specs.Steps.{Appends}
use Rattle.lucy_simplex.proofs.pointing.lows_point.Given as goal

abbrev pub invariant-loop-range : goal.invariant-loop-range
invariant-loop-range l = Appends [] (take l.range-index (lows_of l.bounds)) l.point.items
