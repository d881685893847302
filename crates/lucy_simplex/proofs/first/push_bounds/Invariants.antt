use Rattle.std.proofs.Common.{length, drop}
use Rattle.lucy_simplex.specs.First.{bound_equations}
use Rattle.lucy_simplex.proofs.FirstLines.{Begun}
use Rattle.lucy_simplex.proofs.first.push_bounds.Given as goal

abbrev pub invariant-loop-place : goal.invariant-loop-place
invariant-loop-place l = Begun l.fn.lines.items l.lines.items (bound_equations (length l.bounds) (length l.rows) 0 l.bounds) (bound_equations (length l.bounds) (length l.rows) l.place (drop l.place l.bounds))
