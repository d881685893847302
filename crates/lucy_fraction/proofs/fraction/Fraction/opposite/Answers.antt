use Rattle.std.proofs.Common.{◌≡◌, ap, ◌∙◌, unsigned_abs, arith, rules}
use Rattle.std.proofs.lemmas.Int.{ints, to_z-of_z}
use mir.Syntax.{w64}
use mir.Val.{SFits}
use Rattle.lucy_fraction.proofs.Ratios.{sized_fraction}
use Rattle.lucy_fraction.proofs.fraction.Fraction.opposite.Goals as goal

pub invariant_of-result : goal.invariant_of-result
invariant_of-result c =
    let fits : SFits w64 c.negated.result = search rules in
    let size : unsigned_abs c.negated.result ≡ unsigned_abs c.self.inside.numerator = ap unsigned_abs c.negated.ensures ∙ grind (arith, ints) in
    simp to_z-of_z (sized_fraction c.self.inside.numerator c.negated.result c.self.inside.denominator size c.self.invariant)
