-- Sums of products.
use Rattle.std.proofs.Common.{◌≡◌, ℕ, zero, suc, ◌*◌, ◌<◌, ℤ, pos, negsuc, neg_ℤ, ◌+ℤ◌, ◌*ℤ◌, List, [], ◌∷◌, length, map, ap, refl, arith}
use Rattle.std.proofs.lemmas.Int.{ints}
use Rattle.std.proofs.Math.IntN.{*ℤ-zero}
use Rattle.lucy_clauses.proofs.Products.{over_sum, times_sum, regroup}
use Rattle.lucy_simplex.specs.Systems.{dot}
use Rattle.lucy_simplex.specs.Tableaus.{combined}

pub neg_times : (a b : ℤ) → neg_ℤ a *ℤ b ≡ neg_ℤ (a *ℤ b)
neg_times a b =
    let none : a +ℤ neg_ℤ a ≡ pos 0 = omega (arith, ints) in
    omega (arith, ints, over_sum a (neg_ℤ a) b, ap (λ (x : ℤ). x *ℤ b) none)

pub dot-nothing : (xs : List ℤ) → dot xs [] ≡ pos 0
dot-nothing [] = refl
dot-nothing (x ∷ xs) = refl

pub dot-combined : (d : ℕ) (f : ℤ) (xs ys v : List ℤ) → length xs ≡ length ys → dot (combined d f xs ys) v ≡ pos d *ℤ dot xs v +ℤ f *ℤ dot ys v
dot-combined d f [] [] v h = omega (arith, ints, *ℤ-zero (pos d), *ℤ-zero f)
dot-combined d f [] (y ∷ ys) v h = absurd (omega (arith, h))
dot-combined d f (x ∷ xs) [] v h = absurd (omega (arith, h))
dot-combined d f (x ∷ xs) (y ∷ ys) [] h = omega (arith, ints, *ℤ-zero (pos d), *ℤ-zero f)
dot-combined d f (x ∷ xs) (y ∷ ys) (w ∷ v) h =
    omega (arith, ints, dot-combined d f xs ys v (omega (arith, h)), over_sum (pos d *ℤ x) (f *ℤ y) w, regroup (pos d) x w, regroup f y w, times_sum (pos d) (x *ℤ w) (dot xs v), times_sum f (y *ℤ w) (dot ys v))

pub dot-negative : (xs v : List ℤ) → dot (map neg_ℤ xs) v ≡ neg_ℤ (dot xs v)
dot-negative [] v = refl
dot-negative (x ∷ xs) [] = refl
dot-negative (x ∷ xs) (w ∷ v) = omega (arith, ints, neg_times x w, dot-negative xs v)

pub no_factor : (d : ℕ) (x : ℤ) → 0 < d → pos d *ℤ x ≡ pos 0 → x ≡ pos 0
no_factor d (pos zero) some e = refl
no_factor d (pos (suc n)) some e = absurd (omega (arith, ints, e, some_product d (suc n)))
  where
    some_product : (a b : ℕ) → 0 < a → 0 < b → 0 < a * b
    some_product a b p q = grind arith
no_factor d (negsuc n) some e = absurd (omega (arith, ints, e, some_product d (suc n)))
  where
    some_product : (a b : ℕ) → 0 < a → 0 < b → 0 < a * b
    some_product a b p q = grind arith
