use Rattle.std.proofs.Common.{◌≡◌, ◌≤◌, ◌+◌, ◌^◌, ◌+ℤ◌, true, length, drop, unsigned_abs}
use Rattle.lucy_clauses.specs.Sums.{sum_at}
use Rattle.lucy_clauses.specs.Formulas.{weight_at, names_below}
use Rattle.lucy_clauses.proofs.formulas.sum_of.Given as goal

abbrev pub invariant-loop-part : goal.invariant-loop-part
invariant-loop-part l =
    (sum_at l.parts l.numbers ≡ l.sum +ℤ sum_at (drop l.part-index l.parts) l.numbers) × (unsigned_abs l.sum + weight_at l.numbers (drop l.part-index l.parts) ≤ 2 ^ 101) × (names_below (length l.numbers) (drop l.part-index l.parts) ≡ true)
