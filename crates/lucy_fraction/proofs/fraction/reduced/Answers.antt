use Rattle.std.proofs.Common.{subst}
use Rattle.std.proofs.lemmas.Int.{to_z-of_z}
use Rattle.lucy_fraction.specs.Rationals.{IsLowest}
use Rattle.lucy_fraction.proofs.Ratios.{fitting, lowest_reduced, too_wide}
use Rattle.lucy_fraction.proofs.fraction.reduced.Goals as goal

pub in_lowest_terms-requires-clause-reduced : goal.in_lowest_terms-requires-clause-reduced
in_lowest_terms-requires-clause-reduced c =
    lowest_reduced c.is_below_zero-below_zero.result c.unsigned_abs.result c.args.bottom c.lowest-size.result.0 c.lowest-size.result.1 c.requires c.lowest-size.ensures

pub returns-then-is_within : goal.returns-then-is_within
returns-then-is_within c =
    let fits = c.ranges.top in
    let size = simp to_z-of_z at c.unsigned_abs.ensures.value in
    let sign = simp to_z-of_z at c.is_below_zero-below_zero.ensures in
    let lowest = subst (λ n. IsLowest n c.args.bottom c.lowest-size.result.0 c.lowest-size.result.1) size c.lowest-size.ensures in
    fitting c.is_below_zero-below_zero.result c.is_within.result c.in_lowest_terms.result c.args.top c.args.bottom c.lowest-size.result.0 c.lowest-size.result.1 c.requires sign lowest c.if-is_within.true c.is_within.ensures.0 c.in_lowest_terms.ensures

pub returns-else-is_within : goal.returns-else-is_within
returns-else-is_within c =
    let fits = c.ranges.top in
    let size = simp to_z-of_z at c.unsigned_abs.ensures.value in
    let sign = simp to_z-of_z at c.is_below_zero-below_zero.ensures in
    let lowest = subst (λ n. IsLowest n c.args.bottom c.lowest-size.result.0 c.lowest-size.result.1) size c.lowest-size.ensures in
    too_wide c.is_below_zero-below_zero.result c.is_within.result c.args.top c.args.bottom c.lowest-size.result.0 c.lowest-size.result.1 c.requires sign lowest c.if-is_within.false c.is_within.ensures.1
