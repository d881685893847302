use Rattle.std.proofs.Common.{subst, rules}
use Rattle.lucy_fraction.specs.Rationals.{Ratio, IsReducedForm, IsTooWide, quotient}
use Rattle.lucy_simplex.proofs.ReadQuotients.{read_quotient, read_no_quotient, read_wide_quotient}
use Rattle.lucy_simplex.proofs.quotients.quotient.Goals as goal

pub returns-in-Ok-clause-value : goal.returns-in-Ok-clause-value
returns-in-Ok-clause-value c = λ q h.
    (let form = subst (λ (g : Ratio). IsReducedForm c.in-Ok.quotient (quotient c.index.result.now g)) c.opposite.ensures c.in-Ok.ensures.0 in
    read_quotient c.args.entering q c.args.line.now c.index-factor.result.now c.index.result.now c.in-Ok.quotient c.requires.below (search rules) (search rules) (c.is_below_zero.ensures.0 c.if-is_below_zero.true) form h)

pub returns-in-Err-clause-wide : goal.returns-in-Err-clause-wide
returns-in-Err-clause-wide c = λ q h.
    (let wide = subst (λ (g : Ratio). IsTooWide (quotient c.index.result.now g)) c.opposite.ensures c.in-Err.ensures in
    read_wide_quotient c.args.entering q c.args.line.now c.index-factor.result.now c.index.result.now c.requires.below (search rules) (search rules) (c.is_below_zero.ensures.0 c.if-is_below_zero.true) wide h)

pub returns-else-is_below_zero-clause-value : goal.returns-else-is_below_zero-clause-value
returns-else-is_below_zero-clause-value c = λ q h.
    read_no_quotient c.args.entering q c.args.line.now c.index-factor.result.now c.requires.below (search rules) (λ k. (let t = c.is_below_zero.ensures.1 k in let f = c.if-is_below_zero.false in cc)) h
