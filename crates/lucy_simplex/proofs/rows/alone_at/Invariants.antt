use Rattle.std.proofs.Common.{◌≡◌, true, drop}
use Rattle.std.specs.List.{list_all, list_any}
use Rattle.lucy_simplex.specs.Conditions.{is_narrow_row}
use Rattle.lucy_simplex.specs.Sure.{is_alone}
use Rattle.lucy_simplex.proofs.rows.alone_at.Given as goal

abbrev pub invariant-loop-i : goal.invariant-loop-i
invariant-loop-i l = (list_any (is_alone l.bounds) l.rows ≡ list_any (is_alone l.bounds) (drop l.i l.rows)) × (list_all (is_narrow_row l.bounds) (drop l.i l.rows) ≡ true)
