-- Tests of single numbers.
use Rattle.std.proofs.Common.{◌≡◌, Bool, true, false, not, ◌||◌, ◌&&◌, ℤ, pos, negsuc, neg_ℤ, int_le, ◌-ℤ◌, ◌+ℤ◌, ◌*ℤ◌, refl, sym, ap, ◌∙◌, arith}
use Rattle.std.specs.Ordering.{int_eq}
use Rattle.std.specs.Int.{int_max, int_min}
use Rattle.std.proofs.lemmas.Int.{ints, int_max_is, int_min_is}
use Rattle.std.proofs.lemmas.Bool.Decides.{Decides-int_eq}

-- a test that is true exactly where two numbers are equal
pub equal_test : (b : Bool) (x y : ℤ) → (b ≡ true → x ≡ y) → (x ≡ y → b ≡ true) → b ≡ int_eq x y
equal_test true x y f g = sym ((Decides-int_eq x y).1 (f refl))
equal_test false x y f g = by_test (int_eq x y) refl
  where
    by_test : (c : Bool) → int_eq x y ≡ c → false ≡ c
    by_test true e = g ((Decides-int_eq x y).0 e)
    by_test false e = refl

flip : (b c : Bool) → b ≡ not c → not b ≡ c
flip true false e = refl
flip false true e = refl
flip true true e = sym e
flip false false e = sym e

pub at_most_is : (x p : ℤ) → int_le (pos 1 *ℤ x +ℤ pos 0) p ≡ int_le x p
at_most_is x p = grind (arith, ints)

pub at_least_is : (x p : ℤ) → int_le (negsuc 0 *ℤ x +ℤ pos 0) (neg_ℤ p) ≡ int_le p x
at_least_is x p = grind (arith, ints)

on_means : (p x : ℤ) → (int_le x p && int_le p x) ≡ true → p ≡ x
on_means p x h = grind (arith, ints, h)

means_on : (p x : ℤ) → p ≡ x → (int_le x p && int_le p x) ≡ true
means_on p x h = grind (arith, ints, h)

pub on_number : (p x : ℤ) → (int_le x p && int_le p x) ≡ int_eq p x
on_number p x = equal_test (int_le x p && int_le p x) p x (on_means p x) (means_on p x)

off_on : (p x : ℤ) → (int_le x (p -ℤ pos 1) || int_le (p +ℤ pos 1) x) ≡ not (int_le x p && int_le p x)
off_on p x = grind (arith, ints)

pub off_number : (p x : ℤ) → (int_le x (p -ℤ pos 1) || int_le (p +ℤ pos 1) x) ≡ not (int_eq p x)
off_number p x = off_on p x ∙ ap not (on_number p x)

-- ---- merges

pub at_most_other_is : (x m : ℤ) → int_le (pos 1 *ℤ x +ℤ (negsuc 0 *ℤ m +ℤ pos 0)) (pos 0) ≡ int_le x m
at_most_other_is x m = grind (arith, ints)

pub at_least_other_is : (x m : ℤ) → int_le (negsuc 0 *ℤ x +ℤ (pos 1 *ℤ m +ℤ pos 0)) (pos 0) ≡ int_le m x
at_least_other_is x m = grind (arith, ints)

-- the third number is at least both others in an order, and at most one of them
abbrev chosen : (ℤ → ℤ → Bool) → ℤ → ℤ → ℤ → Bool
chosen le x y m = le x m && (le y m && (le m x || le m y))

greater_means : (x y m : ℤ) → chosen int_le x y m ≡ true → m ≡ int_max x y
greater_means x y m h = grind (arith, ints, int_max_is, h)

means_greater : (x y m : ℤ) → m ≡ int_max x y → chosen int_le x y m ≡ true
means_greater x y m h = grind (arith, ints, int_max_is, h)

pub greater_number : (x y m : ℤ) → (int_le x m && (int_le y m && (int_le m x || int_le m y))) ≡ int_eq m (int_max x y)
greater_number x y m = equal_test (chosen int_le x y m) m (int_max x y) (greater_means x y m) (means_greater x y m)

lesser_means : (x y m : ℤ) → chosen (λ a b. int_le b a) x y m ≡ true → m ≡ int_min x y
lesser_means x y m h = grind (arith, ints, int_min_is, h)

means_lesser : (x y m : ℤ) → m ≡ int_min x y → chosen (λ a b. int_le b a) x y m ≡ true
means_lesser x y m h = grind (arith, ints, int_min_is, h)

pub lesser_number : (x y m : ℤ) → (int_le m x && (int_le m y && (int_le x m || int_le y m))) ≡ int_eq m (int_min x y)
lesser_number x y m = equal_test (chosen (λ a b. int_le b a) x y m) m (int_min x y) (lesser_means x y m) (means_lesser x y m)
