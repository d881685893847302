use Rattle.std.proofs.Common.{◌≡◌, drop}
use Rattle.std.specs.List.{list_all}
use Rattle.lucy_simplex.specs.Conditions.{is_small_range}
use Rattle.lucy_simplex.proofs.rows.are_small_ranges.Given as goal

abbrev pub invariant-loop-range : goal.invariant-loop-range
invariant-loop-range l = list_all is_small_range l.bounds ≡ list_all is_small_range (drop l.range-index l.bounds)
