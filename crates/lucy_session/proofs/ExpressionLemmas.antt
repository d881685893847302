-- The reading of expressions.
use Rattle.std.proofs.Common.{◌≡◌, ℕ, zero, suc, ◌-◌, ◌<◌, sym, ap, arith}
use Rattle.lucy_plan.specs.declared.parts.PlanParts.{PlanParts}
use Rattle.lucy_session.specs.Expressions.{inner, expr, Inside}

-- what is read inside a parenthesis, where one may be opened
pub inside_at : (plan : PlanParts) (depth : ℕ) → 0 < depth → Inside plan depth
unfolding inner
inside_at plan zero h = absurd (omega (arith, h))
inside_at plan (suc depth) h =
    let e : suc depth - 1 ≡ depth = omega arith in
    record { positive = h; expr = λ text. ap (λ n. expr plan n text) (sym e) }
