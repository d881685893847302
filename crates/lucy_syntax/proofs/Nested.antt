-- What is read inside a nesting.
use Rattle.std.proofs.Common.{◌≡◌, ◌<◌, ◌-◌, ℕ, zero, suc, ap, arith}
use Rattle.lucy_syntax.specs.Conditions.{cond, unary, inner_cond, Inside}
use Rattle.lucy_syntax.specs.Objects.{fields, inner_fields, InPair}

pub is_inside : (d : ℕ) → 0 < d → Inside d
unfolding inner_cond
is_inside zero some = absurd (omega arith)
is_inside (suc d) some = let e : d ≡ suc d - 1 = omega arith in record { positive = some; cond = λ i. ap (λ n. cond n i) e; unary = λ i. ap (λ n. unary n i) e }

pub in_pair : (d : ℕ) → 0 < d → InPair d
unfolding inner_fields
in_pair zero some = absurd (omega arith)
in_pair (suc d) some = let e : d ≡ suc d - 1 = omega arith in record { positive = some; fields = λ i. ap (λ n. fields n i) e }
