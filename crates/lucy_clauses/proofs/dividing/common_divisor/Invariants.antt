use Rattle.std.proofs.Common.{ℕ, drop}
use Rattle.lucy_clauses.proofs.Divisors.{Reaches}
use Rattle.lucy_clauses.proofs.dividing.common_divisor.Given as goal

abbrev pub invariant-loop-part : goal.invariant-loop-part
invariant-loop-part l = (g : ℕ) → Reaches l.common (drop l.part-index l.parts) g → Reaches 0 l.parts g
