-- Tests joined, and the two literals of a name.
use Rattle.std.proofs.Common.{◌≡◌, Bool, true, false, ◌||◌, ◌&&◌, ℕ, ℤ, pos, negsuc, int_le, ◌+ℤ◌, ◌*ℤ◌, List, refl, sym, ap, ◌∙◌, arith}
use Rattle.std.proofs.lemmas.Int.{ints}
use Rattle.lucy_clauses.specs.Sums.{number_at, is_true}
use Rattle.lucy_normal.specs.Shapes.{is_on, is_off}

pub two : (x y : Bool) → (x && y) ≡ true → (x ≡ true) × (y ≡ true)
two true y h = (refl, h)
two false y h = (h, absurd (cc))

pub both : (x y : Bool) → x ≡ true → y ≡ true → (x && y) ≡ true
both x y h k = ap (λ (z : Bool). z && y) h ∙ k

pub and_true : (x : Bool) → (x && true) ≡ x
and_true true = refl
and_true false = refl

pub or_false : (x : Bool) → (x || false) ≡ x
or_false true = refl
or_false false = refl

-- three tests of a range
pub and_last : (p q r : Bool) → (p && q && r) ≡ true → r ≡ true
and_last true true r h = h
and_last true false r h = absurd (cc)
and_last false q r h = absurd (cc)

pub and_put : (p q r s : Bool) → (p && q && r) ≡ true → s ≡ true → (p && q && s) ≡ true
and_put true true r s h k = k
and_put true false r s h k = absurd (cc)
and_put false q r s h k = absurd (cc)

pub or_true : (x : Bool) → (x || true) ≡ true
or_true true = refl
or_true false = refl

pub or_and : (x y z : Bool) → (x || y) ≡ true → (x || z) ≡ true → (x || (y && z)) ≡ true
or_and true y z h k = refl
or_and false true z h k = k
or_and false false z h k = h

pub or_both : (p q r s : Bool) → (p ≡ true → q ≡ true) → (r ≡ true → s ≡ true) → (p || r) ≡ true → (q || s) ≡ true
or_both p true r s f g h = refl
or_both true false r s f g h = ap (λ x. x || s) (f refl)
or_both false false r s f g h = g h

pub or_in : (x y z : Bool) → (y ≡ true → z ≡ true) → (x || y) ≡ true → (x || z) ≡ true
or_in true y z f h = refl
or_in false y z f h = f h

on_off_number : (x : ℤ) → int_le (negsuc 0 *ℤ x +ℤ pos 0) (negsuc 0) ≡ true → int_le (pos 1 *ℤ x +ℤ pos 0) (pos 0) ≡ false
on_off_number x h = grind (arith, ints, h)

pub left_out : (p q t : Bool) → (p ≡ true → q ≡ false) → ((q || false) || t) ≡ true → p ≡ true → t ≡ true
left_out p q true f h e = refl
left_out p true false f h e = sym (f e)
left_out p false false f h e = h

pub on_off : (b : List ℤ) (y : ℕ) → is_true b (is_on y) ≡ true → is_true b (is_off y) ≡ false
on_off b y = on_off_number (number_at b y)
