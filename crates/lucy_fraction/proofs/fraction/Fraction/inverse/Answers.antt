use Rattle.std.proofs.Common.{◌<◌, ℕ, ap, ◌∙◌, pos, subst, sym, unsigned_abs, int_lt, rules}
use Rattle.std.proofs.lemmas.Int.{to_z-of_z}
use mir.Syntax.{w64}
use mir.Val.{SFits}
use Rattle.lucy_fraction.proofs.Ratios.{turned_fraction, signed_size, size_above_zero}
use Rattle.lucy_fraction.specs.Rationals.{Ratio, ratio, IsReduced, IsWithin}
use Rattle.lucy_fraction.proofs.fraction.Fraction.inverse.Goals as goal

pub invariant_of-result : goal.invariant_of-result
invariant_of-result c =
    let n = c.self.inside.numerator in
    let d = c.self.inside.denominator in
    let fits : SFits w64 n = search rules in
    let turned_fits : SFits w64 c.with_sign_of.result = search rules in
    let size = simp to_z-of_z at c.size_of.ensures in
    let sign = simp to_z-of_z at c.with_sign_of.ensures in
    let top = ap (λ (r : Ratio). r.top) c.self.view_is in
    let some : 0 < unsigned_abs n = size_above_zero n (λ e. c.requires (sym top ∙ e)) in
    let turned = turned_fraction n c.with_sign_of.result d (ap unsigned_abs sign ∙ signed_size (int_lt n (pos 0)) d) some c.self.invariant in
    simp to_z-of_z (subst (λ (k : ℕ). IsReduced (ratio c.with_sign_of.result k) × IsWithin (ratio c.with_sign_of.result k)) (sym size) turned)
