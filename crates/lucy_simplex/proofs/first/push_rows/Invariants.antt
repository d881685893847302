use Rattle.std.proofs.Common.{length, drop}
use Rattle.lucy_simplex.specs.Systems.{lows_of}
use Rattle.lucy_simplex.specs.First.{row_equations}
use Rattle.lucy_simplex.proofs.FirstLines.{Begun}
use Rattle.lucy_simplex.proofs.first.push_rows.Given as goal

abbrev pub invariant-loop-place : goal.invariant-loop-place
invariant-loop-place l =
    Begun l.fn.lines.items l.lines.items (row_equations (length l.bounds) (length l.rows) (lows_of l.bounds) 0 l.rows) (row_equations (length l.bounds) (length l.rows) (lows_of l.bounds) l.place (drop l.place l.rows))
