use Rattle.std.proofs.Common.{◌≡◌, true, drop}
use Rattle.std.specs.List.{list_all}
use Rattle.lucy_simplex.specs.Conditions.{is_narrow_row}
use Rattle.lucy_simplex.specs.Sure.{lows_hold}
use Rattle.lucy_simplex.proofs.rows.lows_hold.Given as goal

abbrev pub invariant-loop-row : goal.invariant-loop-row
invariant-loop-row l = (lows_hold l.rows l.bounds ≡ lows_hold (drop l.row-index l.rows) l.bounds) × (list_all (is_narrow_row l.bounds) (drop l.row-index l.rows) ≡ true)
