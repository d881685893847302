use Rattle.std.proofs.Common.{◌≡◌, ℕ, ◌≤◌, ◌^◌, ℤ, pos, ◌*ℤ◌, unsigned_abs, ap, subst, sym, ◌∙◌, arith}
use Rattle.std.proofs.Math.Nat.{mul-le-mul}
use Rattle.std.proofs.lemmas.Int.{to_z-of_z, unsigned_abs-mul, fits_signed_from_abs}
use mir.Syntax.{w64, w128}
use mir.Val.{SFits, to_z, of_z}
use Rattle.lucy_simplex.proofs.multipliers.times.Goals as goal

product_size : (n : ℤ) (d : ℕ) → unsigned_abs n ≤ 2 ^ 62 → d ≤ 2 ^ 62 → unsigned_abs (n *ℤ pos d) ≤ 2 ^ 124
product_size n d n_small d_small = rw unsigned_abs-mul (mul-le-mul n_small d_small)

product_fits : (n : ℤ) (d : ℕ) → unsigned_abs n ≤ 2 ^ 62 → d ≤ 2 ^ 62 → SFits w128 (n *ℤ pos d)
product_fits n d n_small d_small = fits_signed_from_abs w128 (n *ℤ pos d) (omega (arith, product_size n d n_small d_small))

-- the product as it is computed, each number by its bits, where `x` and `y` are the widened numbers
product_is : (a b x y : ℤ) → SFits w128 x → SFits w128 y → x ≡ a → y ≡ b → (to_z w128 (of_z w128 x) *ℤ to_z w128 (of_z w128 y)) ≡ a *ℤ b
product_is a b x y x_fits y_fits x_is y_is = ap (λ z. z *ℤ to_z w128 (of_z w128 y)) (to_z-of_z w128 x x_fits ∙ x_is) ∙ ap (λ z. a *ℤ z) (to_z-of_z w128 y y_fits ∙ y_is)

pub overflow_mul-result : goal.overflow_mul-result
overflow_mul-result c =
    let numerator_is = c.from.ensures ∙ to_z-of_z w64 c.args.numerator c.ranges.numerator in
    let is = product_is c.args.numerator (pos c.args.factor) c.from.result c.from-2.result (record { sfits = c.from.type_inv }) (record { sfits = c.from-2.type_inv }) numerator_is c.from-2.ensures in
    subst (SFits w128) (sym is) (product_fits c.args.numerator c.args.factor c.requires.numerator c.requires.factor)

pub returns : goal.returns
returns c =
    let numerator_is = c.from.ensures ∙ to_z-of_z w64 c.args.numerator c.ranges.numerator in
    let is = product_is c.args.numerator (pos c.args.factor) c.from.result c.from-2.result (record { sfits = c.from.type_inv }) (record { sfits = c.from-2.type_inv }) numerator_is c.from-2.ensures in
    ap (λ z. to_z w128 (of_z w128 z)) is ∙ to_z-of_z w128 (c.args.numerator *ℤ pos c.args.factor) (product_fits c.args.numerator c.args.factor c.requires.numerator c.requires.factor)
