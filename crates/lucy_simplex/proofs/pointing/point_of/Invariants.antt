use Rattle.std.proofs.Common.{ℤ, List, pos, ◌*ℤ◌, length, map}
use Rattle.lucy_simplex.specs.Systems.{lows_of}
use Rattle.lucy_simplex.specs.Tableaus.{Equation}
use Rattle.lucy_simplex.specs.Reading.{AreRead}
use Rattle.lucy_simplex.specs.Points.{HaveShares, AreUnmoved}
use Rattle.lucy_simplex.proofs.PointLines.{Moving}
use Rattle.lucy_simplex.proofs.pointing.point_of.Given as goal

abbrev pub invariant-loop-i : goal.invariant-loop-i
invariant-loop-i l = ((qs : List Equation) → AreRead qs l.lines → (s : HaveShares qs) → Moving (length l.bounds) s.common qs s.tops (map (λ (x : ℤ). pos s.common *ℤ x) (lows_of l.bounds)) l.i l.point.items) × AreUnmoved l.lines l.i l.bounds l.point.items
