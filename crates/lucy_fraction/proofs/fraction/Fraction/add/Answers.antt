use Rattle.std.proofs.Common.{◌≡◌, ap, sym, ◌∙◌, subst, pos, rules}
use Rattle.std.proofs.lemmas.Int.{to_z-of_z}
use mir.Syntax.{w64}
use mir.Val.{SFits}
use Rattle.lucy_fraction.specs.Rationals.{Ratio, IsReduced, IsWithin}
use Rattle.lucy_fraction.proofs.Ratios.{zero_added, added_to_zero}
use Rattle.lucy_fraction.proofs.fraction.Fraction.add.Goals as goal

pub returns-then-is_zero : goal.returns-then-is_zero
returns-then-is_zero c =
    let fits : SFits w64 c.other.inside.numerator = search rules in
    let inside : c.other.inside.numerator ≡ pos 0 = simp to_z-of_z at (c.is_zero.ensures.0 c.if-is_zero.true) in
    let none : c.args.other.top ≡ pos 0 = ap (λ (r : Ratio). r.top) (sym c.other.view_is) ∙ inside in
    let kept = subst (λ (r : Ratio). IsReduced r × IsWithin r) c.self.view_is c.self.invariant in
    zero_added c.args.self c.args.other none kept.0 kept.1

pub returns-then-is_zero-2 : goal.returns-then-is_zero-2
returns-then-is_zero-2 c =
    let fits : SFits w64 c.self.inside.numerator = search rules in
    let inside : c.self.inside.numerator ≡ pos 0 = simp to_z-of_z at (c.is_zero-2.ensures.0 c.if-is_zero-2.true) in
    let none : c.args.self.top ≡ pos 0 = ap (λ (r : Ratio). r.top) (sym c.self.view_is) ∙ inside in
    let kept = subst (λ (r : Ratio). IsReduced r × IsWithin r) c.other.view_is c.other.invariant in
    added_to_zero c.args.self c.args.other none kept.0 kept.1
