use Rattle.std.proofs.Common.{◌≡◌, ◌+◌, ◌*◌, ◌^◌, ℤ, ◌+ℤ◌, ◌*ℤ◌, ap, ◌∙◌, arith}
use Rattle.std.proofs.lemmas.Int.{to_z-of_z}
use mir.Syntax.{w128}
use mir.Val.{SFits, to_z, of_z}
use Rattle.lucy_model.proofs.Sizes.{IsWithin-add, IsWithin-mul, fits_within}
use Rattle.lucy_model.proofs.values.share_added.Goals as goal

-- the sum as it is computed, each number by its bits, where `wide` is the widened factor
computed : (sum by wide number : ℤ) → SFits w128 sum → SFits w128 wide → SFits w128 number → SFits w128 (by *ℤ number) → SFits w128 (sum +ℤ by *ℤ number) → wide ≡ by
    → to_z w128 (of_z w128 (to_z w128 (of_z w128 sum) +ℤ to_z w128 (of_z w128 (to_z w128 (of_z w128 wide) *ℤ to_z w128 (of_z w128 number))))) ≡ sum +ℤ by *ℤ number
computed sum by wide number sum_fits wide_fits number_fits product_fits total_fits is =
    let kept : ℤ → ℤ = λ x. to_z w128 (of_z w128 x) in
    ap (λ x. kept (x +ℤ kept (kept wide *ℤ kept number))) (to_z-of_z w128 sum sum_fits)
    ∙ ap (λ x. kept (sum +ℤ kept (x *ℤ kept number))) (to_z-of_z w128 wide wide_fits ∙ is)
    ∙ ap (λ x. kept (sum +ℤ kept (by *ℤ x))) (to_z-of_z w128 number number_fits)
    ∙ ap (λ x. kept (sum +ℤ x)) (to_z-of_z w128 (by *ℤ number) product_fits)
    ∙ to_z-of_z w128 (sum +ℤ by *ℤ number) total_fits

pub returns : goal.returns
returns c =
    let share = IsWithin-mul 1000000 (2 ^ 69) c.args.by c.args.number c.requires.by c.requires.number in
    let product : SFits w128 (c.args.by *ℤ c.args.number) = fits_within (1000000 * 2 ^ 69) _ share (omega arith) in
    let total : SFits w128 (c.args.sum +ℤ c.args.by *ℤ c.args.number) = fits_within (2 ^ 32 * (1000000 * 2 ^ 69) + 1000000 * 2 ^ 69) _ (IsWithin-add (2 ^ 32 * (1000000 * 2 ^ 69)) (1000000 * 2 ^ 69) _ _ c.requires.sum share) (omega arith) in
    computed c.args.sum c.args.by c.from.result c.args.number c.ranges.sum (record { sfits = c.from.type_inv }) c.ranges.number product total (c.from.ensures ∙ to_z-of_z _ c.args.by c.ranges.by)
