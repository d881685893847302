use Rattle.std.proofs.Common.{◌≡◌, ◌≤◌, ◌+◌, ◌+ℤ◌, true, length, drop, unsigned_abs}
use Rattle.lucy_clauses.specs.Sums.{sum_at}
use Rattle.lucy_clauses.specs.Formulas.{weight, names_below}
use Rattle.lucy_simplex.specs.Systems.{lows_of}
use Rattle.lucy_simplex.proofs.rows.at_lows.Given as goal

abbrev pub invariant-loop-part : goal.invariant-loop-part
invariant-loop-part l = record {
  left : sum_at l.parts (lows_of l.bounds) ≡ l.sum +ℤ sum_at (drop l.part-index l.parts) (lows_of l.bounds);
  small : unsigned_abs l.sum + weight l.bounds (drop l.part-index l.parts) ≤ weight l.bounds l.parts;
  names : names_below (length l.bounds) (drop l.part-index l.parts) ≡ true;
}
