use Rattle.std.proofs.Common.{◌==◌, ℕ, ap}
use Rattle.lucy_clauses.proofs.Divisors.{divisor_is}
use Rattle.lucy_clauses.proofs.normality.are_coprime.Goals as goal

pub returns : goal.returns
returns c = ap (λ (n : ℕ). n == 1) (divisor_is c.args.parts.now c.common_divisor.result c.common_divisor.ensures)
