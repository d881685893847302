use Rattle.std.proofs.Common.{◌≡◌, ◌≤◌, ◌+◌, ◌+ℤ◌, drop, unsigned_abs}
use Rattle.lucy_clauses.specs.Parts.{total_size}
use Rattle.lucy_simplex.specs.First.{factor_at}
use Rattle.lucy_simplex.proofs.rows.factor_of.Given as goal

abbrev pub invariant-loop-part : goal.invariant-loop-part
invariant-loop-part l = record {
  left : factor_at l.parts l.variable ≡ l.sum +ℤ factor_at (drop l.part-index l.parts) l.variable;
  small : unsigned_abs l.sum + total_size (drop l.part-index l.parts) ≤ total_size l.parts;
}
