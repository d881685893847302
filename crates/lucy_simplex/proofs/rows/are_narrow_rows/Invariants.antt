use Rattle.std.proofs.Common.{◌≡◌, drop}
use Rattle.std.specs.List.{list_all}
use Rattle.lucy_simplex.specs.Conditions.{is_narrow_row}
use Rattle.lucy_simplex.proofs.rows.are_narrow_rows.Given as goal

abbrev pub invariant-loop-row : goal.invariant-loop-row
invariant-loop-row l = list_all (is_narrow_row l.bounds) l.rows ≡ list_all (is_narrow_row l.bounds) (drop l.row-index l.rows)
