use Rattle.std.proofs.Common.{ℕ, IfNone, subst}
use Rattle.lucy_simplex.specs.Multipliers.{AreMultiplesWide}
use Rattle.lucy_simplex.proofs.multipliers.with_bottom.Goals as goal

pub returns-clause-wide : goal.returns-clause-wide
returns-clause-wide c = subst (λ (b : ℕ). IfNone c.least_multiple.result (AreMultiplesWide c.args.common b)) c.denominator.ensures.value c.least_multiple.ensures.wide
