-- Of two states, neither comes before the other both ways.
use Rattle.std.proofs.Common.{◌≡◌, Bool, true, false, ◌||◌, ◌&&◌, ℤ, int_lt, List, [], ◌∷◌, refl, ap, ◌∙◌, arith}
use Rattle.std.specs.Ordering.{int_eq}
use Rattle.std.proofs.lemmas.Int.{ints}
use Rattle.std.proofs.lemmas.Bool.Decides.{Decides-int_eq}
use Rattle.lucy_closure.specs.Readings.{comes_before}

not_above : (x y : ℤ) → int_lt x y ≡ true → int_lt y x ≡ false
not_above x y h = grind (arith, ints, h)

not_equal : (x y : ℤ) → int_lt x y ≡ true → int_eq y x ≡ false
not_equal x y h = by_test (int_eq y x) refl
  where
    apart : (x y : ℤ) → int_lt x y ≡ true → y ≡ x → ⊥
    apart x y h e = grind (arith, ints, h, e)

    by_test : (b : Bool) → int_eq y x ≡ b → b ≡ false
    by_test true e = absurd (apart x y h ((Decides-int_eq y x).0 e))
    by_test false e = refl

same_not_below : (x y : ℤ) → x ≡ y → int_lt y x ≡ false
same_not_below x y e = grind (arith, ints, e)

both_false : (p q r : Bool) → p ≡ false → (q ≡ false) → (p || (q && r)) ≡ false
both_false p q r h k = ap (λ (b : Bool). b || (q && r)) h ∙ ap (λ (b : Bool). b && r) k

last_false : (p q r : Bool) → p ≡ false → r ≡ false → (p || (q && r)) ≡ false
last_false p true r h k = ap (λ (b : Bool). b || r) h ∙ k
last_false p false r h k = ap (λ (b : Bool). b || false) h

pub asymmetric : (xs ys : List ℤ) → comes_before xs ys ≡ true → comes_before ys xs ≡ false
asymmetric [] ys h = absurd (cc)
asymmetric (x ∷ xs) [] h = refl
asymmetric (x ∷ xs) (y ∷ ys) h = by_test (int_lt x y) (int_eq x y) refl refl h (asymmetric xs ys)
  where
    by_test : (b c : Bool) → int_lt x y ≡ b → int_eq x y ≡ c → (b || (c && comes_before xs ys)) ≡ true → (comes_before xs ys ≡ true → comes_before ys xs ≡ false) → (int_lt y x || (int_eq y x && comes_before ys xs)) ≡ false
    by_test true c e f h rest = both_false (int_lt y x) (int_eq y x) (comes_before ys xs) (not_above x y e) (not_equal x y e)
    by_test false true e f h rest = last_false (int_lt y x) (int_eq y x) (comes_before ys xs) (same_not_below x y ((Decides-int_eq x y).0 f)) (rest h)
    by_test false false e f h rest = absurd (cc)
