use Rattle.std.proofs.Common.{◌≡◌, ℕ, ◌+◌, ◌*◌, ◌≤◌, ◌^◌, max, ℤ, ◌+ℤ◌, ◌*ℤ◌, unsigned_abs, ap, subst, sym, ◌∙◌, arith}
use Rattle.std.proofs.lemmas.Int.{ints, to_z-of_z, unsigned_abs-mul, fits_signed_from_abs}
use mir.Syntax.{w64, w128}
use mir.Val.{SFits, to_z, of_z}
use Rattle.lucy_simplex.proofs.rows.part_added.Goals as goal

product_size : (a b : ℕ) → a * b ≤ a * max 1 b
product_size a b = grind arith

sum_size : (a b : ℤ) → unsigned_abs (a +ℤ b) ≤ unsigned_abs a + unsigned_abs b
sum_size a b = grind (arith, ints)

-- the product and the sum fit
product_fits : (sum by number : ℤ) → unsigned_abs sum + unsigned_abs by * max 1 (unsigned_abs number) ≤ 2 ^ 101 → SFits w128 (by *ℤ number)
product_fits sum by number h =
    let size = product_size (unsigned_abs by) (unsigned_abs number) in
    fits_signed_from_abs w128 (by *ℤ number) (omega (arith, unsigned_abs-mul by number, size, h))

total_fits : (sum by number : ℤ) → unsigned_abs sum + unsigned_abs by * max 1 (unsigned_abs number) ≤ 2 ^ 101 → SFits w128 (sum +ℤ by *ℤ number)
total_fits sum by number h =
    let size = product_size (unsigned_abs by) (unsigned_abs number) in
    fits_signed_from_abs w128 (sum +ℤ by *ℤ number) (omega (arith, sum_size sum (by *ℤ number), unsigned_abs-mul by number, size, h))

-- the product as it is computed, each number by its bits, where `wide` is the widened number
product_is : (by number wide : ℤ) → SFits w128 by → SFits w128 wide → wide ≡ number → (to_z w128 (of_z w128 by) *ℤ to_z w128 (of_z w128 wide)) ≡ by *ℤ number
product_is by number wide by_fits wide_fits is = ap (λ x. x *ℤ to_z w128 (of_z w128 wide)) (to_z-of_z w128 by by_fits) ∙ ap (λ x. by *ℤ x) (to_z-of_z w128 wide wide_fits ∙ is)

-- and the sum
sum_is : (sum by number wide : ℤ) → SFits w128 sum → SFits w128 by → SFits w128 wide → wide ≡ number → SFits w128 (by *ℤ number)
    → (to_z w128 (of_z w128 sum) +ℤ to_z w128 (of_z w128 (to_z w128 (of_z w128 by) *ℤ to_z w128 (of_z w128 wide)))) ≡ sum +ℤ by *ℤ number
sum_is sum by number wide sum_fits by_fits wide_fits is fits =
    ap (λ x. x +ℤ to_z w128 (of_z w128 (to_z w128 (of_z w128 by) *ℤ to_z w128 (of_z w128 wide)))) (to_z-of_z w128 sum sum_fits)
    ∙ ap (λ x. sum +ℤ to_z w128 (of_z w128 x)) (product_is by number wide by_fits wide_fits is)
    ∙ ap (λ x. sum +ℤ x) (to_z-of_z w128 (by *ℤ number) fits)

pub overflow_mul-result : goal.overflow_mul-result
overflow_mul-result c =
    let is = c.from.ensures ∙ to_z-of_z w64 c.args.number c.ranges.number in
    subst (SFits w128) (sym (product_is c.args.by c.args.number c.from.result c.ranges.by (record { sfits = c.from.type_inv }) is)) (product_fits c.args.sum c.args.by c.args.number c.requires)

pub overflow_add-result : goal.overflow_add-result
overflow_add-result c =
    let is = c.from.ensures ∙ to_z-of_z w64 c.args.number c.ranges.number in
    let fits = product_fits c.args.sum c.args.by c.args.number c.requires in
    subst (SFits w128) (sym (sum_is c.args.sum c.args.by c.args.number c.from.result c.ranges.sum c.ranges.by (record { sfits = c.from.type_inv }) is fits)) (total_fits c.args.sum c.args.by c.args.number c.requires)

pub returns : goal.returns
returns c =
    let is = c.from.ensures ∙ to_z-of_z w64 c.args.number c.ranges.number in
    let fits = product_fits c.args.sum c.args.by c.args.number c.requires in
    ap (λ x. to_z w128 (of_z w128 x)) (sum_is c.args.sum c.args.by c.args.number c.from.result c.ranges.sum c.ranges.by (record { sfits = c.from.type_inv }) is fits)
    ∙ to_z-of_z w128 (c.args.sum +ℤ c.args.by *ℤ c.args.number) (total_fits c.args.sum c.args.by c.args.number c.requires)
