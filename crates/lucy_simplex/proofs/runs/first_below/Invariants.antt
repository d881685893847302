use Rattle.std.proofs.Common.{ℕ, ◌<◌, pos, ◌≤ℤ◌}
use Rattle.lucy_clauses.specs.Sums.{number_at}
use Rattle.lucy_simplex.specs.Tableaus.{Equation}
use Rattle.lucy_simplex.specs.Reading.{Reads}
use Rattle.lucy_simplex.proofs.runs.first_below.Given as goal

abbrev pub invariant-loop-place : goal.invariant-loop-place
invariant-loop-place l = (q : Equation) → Reads q l.line → (k : ℕ) → 1 < k → k < l.place → pos 0 ≤ℤ number_at q.numbers k
