use Rattle.std.proofs.Common.{◌≡◌, ◌≤◌, ◌+◌, ◌+ℤ◌, true, length, drop, unsigned_abs}
use Rattle.lucy_clauses.specs.Formulas.{weight, names_below}
use Rattle.lucy_simplex.specs.Sure.{least_of}
use Rattle.lucy_simplex.proofs.rows.least.Given as goal

abbrev pub invariant-loop-part : goal.invariant-loop-part
invariant-loop-part l = record {
  left : least_of l.bounds l.parts ≡ l.sum +ℤ least_of l.bounds (drop l.part-index l.parts);
  small : unsigned_abs l.sum + weight l.bounds (drop l.part-index l.parts) ≤ weight l.bounds l.parts;
  names : names_below (length l.bounds) (drop l.part-index l.parts) ≡ true;
}
