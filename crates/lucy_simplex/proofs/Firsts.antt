-- The first tableau: what its equations are worth.
use Rattle.std.proofs.Common.{◌≡◌, ℕ, zero, suc, ◌<◌, nat_lt, true, ℤ, pos, negsuc, neg_ℤ, ◌+ℤ◌, ◌*ℤ◌, List, [], ◌∷◌, ◌++◌, length, map, ap, sym, ◌∙◌, refl, arith}
use Rattle.std.proofs.lemmas.Int.{ints}
use Rattle.std.proofs.lemmas.Bool.Decides.{nat_tests}
use Rattle.std.proofs.Math.IntN.{*ℤ_comm, *ℤ-zero, zero-*ℤ}
use Rattle.lucy_clauses.proofs.Products.{over_sum, times_sum, regroup}
use Rattle.lucy_clauses.proofs.Mapping.{two_tests}
use Rattle.lucy_clauses.specs.declared.parts.Part.{Part}
use Rattle.lucy_clauses.specs.Sums.{number_at, sum_at}
use Rattle.lucy_clauses.specs.Formulas.{names_below}
use Rattle.lucy_simplex.specs.Systems.{dot}
use Rattle.lucy_simplex.specs.First.{bumped, zeros, unit, dense}

pub dot-append : (xs us ys vs : List ℤ) → length xs ≡ length us → dot (xs ++ ys) (us ++ vs) ≡ dot xs us +ℤ dot ys vs
dot-append [] [] ys vs h = omega (arith, ints)
dot-append [] (u ∷ us) ys vs h = absurd (omega (arith, h))
dot-append (x ∷ xs) [] ys vs h = absurd (omega (arith, h))
dot-append (x ∷ xs) (u ∷ us) ys vs h = omega (arith, ints, dot-append xs us ys vs (omega (arith, h)))

pub dot-bumped : (xs : List ℤ) (i : ℕ) (k : ℤ) (ys : List ℤ) → i < length xs → dot (bumped xs i k) ys ≡ dot xs ys +ℤ k *ℤ number_at ys i
dot-bumped [] i k ys h = absurd (omega (arith, h))
dot-bumped (x ∷ xs) zero k [] h = omega (arith, ints, *ℤ-zero k)
dot-bumped (x ∷ xs) zero k (y ∷ ys) h = omega (arith, ints, over_sum x k y)
dot-bumped (x ∷ xs) (suc i) k [] h = omega (arith, ints, *ℤ-zero k)
dot-bumped (x ∷ xs) (suc i) k (y ∷ ys) h = omega (arith, ints, dot-bumped xs i k ys (omega (arith, h)))

pub length-bumped : (xs : List ℤ) (i : ℕ) (k : ℤ) → length (bumped xs i k) ≡ length xs
length-bumped [] i k = refl
length-bumped (x ∷ xs) zero k = refl
length-bumped (x ∷ xs) (suc i) k = ap suc (length-bumped xs i k)

pub length-zeros : (n : ℕ) → length (zeros n) ≡ n
length-zeros zero = refl
length-zeros (suc n) = ap suc (length-zeros n)

pub dot-zeros : (n : ℕ) (ys : List ℤ) → dot (zeros n) ys ≡ pos 0
dot-zeros zero ys = refl
dot-zeros (suc n) [] = refl
dot-zeros (suc n) (y ∷ ys) = omega (arith, ints, dot-zeros n ys, zero-*ℤ y)

pub length-negative : (xs : List ℤ) → length (map neg_ℤ xs) ≡ length xs
length-negative [] = refl
length-negative (x ∷ xs) = ap suc (length-negative xs)

pub dot-unit : (n i : ℕ) (ys : List ℤ) → i < n → dot (unit n i) ys ≡ neg_ℤ (number_at ys i)
dot-unit n i ys h =
    omega (arith, ints, dot-bumped (zeros n) i (negsuc 0) ys (omega (arith, length-zeros n)), dot-zeros n ys)

pub length-dense : (n : ℕ) (ps : List Part) → length (dense n ps) ≡ n
length-dense n [] = length-zeros n
length-dense n (p ∷ ps) = length-bumped (dense n ps) p.variable p.by ∙ length-dense n ps

pub dot-dense : (n : ℕ) (ps : List Part) (ys : List ℤ) → names_below n ps ≡ true → dot (dense n ps) ys ≡ sum_at ps ys
dot-dense n [] ys h = dot-zeros n ys
dot-dense n (p ∷ ps) ys h =
    let t = two_tests (nat_lt p.variable n) (names_below n ps) h in
    omega (arith, ints, dot-bumped (dense n ps) p.variable p.by ys (below p.variable n (length (dense n ps)) t.0 (length-dense n ps)), dot-dense n ps ys t.1)
  where
    below : (a b c : ℕ) → nat_lt a b ≡ true → c ≡ b → a < c
    below a b c p q = grind (arith, nat_tests)

-- elementwise sums and differences
abbrev pub plus : List ℤ → List ℤ → List ℤ
plus [] ys = []
plus (x ∷ xs) [] = []
plus (x ∷ xs) (y ∷ ys) = (x +ℤ y) ∷ plus xs ys

abbrev pub times : ℤ → List ℤ → List ℤ
times k xs = map (λ (x : ℤ). k *ℤ x) xs

pub length-plus : (xs ys : List ℤ) → length xs ≡ length ys → length (plus xs ys) ≡ length ys
length-plus [] ys h = h
length-plus (x ∷ xs) [] h = absurd (omega (arith, h))
length-plus (x ∷ xs) (y ∷ ys) h = ap suc (length-plus xs ys (omega (arith, h)))

pub number_at-plus : (xs ys : List ℤ) (i : ℕ) → length xs ≡ length ys → number_at (plus xs ys) i ≡ number_at xs i +ℤ number_at ys i
number_at-plus [] [] i h = refl
number_at-plus [] (y ∷ ys) i h = absurd (omega (arith, h))
number_at-plus (x ∷ xs) [] i h = absurd (omega (arith, h))
number_at-plus (x ∷ xs) (y ∷ ys) zero h = refl
number_at-plus (x ∷ xs) (y ∷ ys) (suc i) h = number_at-plus xs ys i (omega (arith, h))

pub number_at-times : (k : ℤ) (xs : List ℤ) (i : ℕ) → number_at (times k xs) i ≡ k *ℤ number_at xs i
number_at-times k [] i = sym (*ℤ-zero k)
number_at-times k (x ∷ xs) zero = refl
number_at-times k (x ∷ xs) (suc i) = number_at-times k xs i

pub length-times : (k : ℤ) (xs : List ℤ) → length (times k xs) ≡ length xs
length-times k [] = refl
length-times k (x ∷ xs) = ap suc (length-times k xs)

pub sum_at-plus : (ps : List Part) (xs ys : List ℤ) → length xs ≡ length ys → sum_at ps (plus xs ys) ≡ sum_at ps xs +ℤ sum_at ps ys
sum_at-plus [] xs ys h = refl
sum_at-plus (p ∷ ps) xs ys h =
    omega (arith, ints, sum_at-plus ps xs ys h, ap (λ (x : ℤ). p.by *ℤ x) (number_at-plus xs ys p.variable h), times_sum p.by (number_at xs p.variable) (number_at ys p.variable))

pub sum_at-times : (ps : List Part) (k : ℤ) (xs : List ℤ) → sum_at ps (times k xs) ≡ k *ℤ sum_at ps xs
sum_at-times [] k xs = sym (*ℤ-zero k)
sum_at-times (p ∷ ps) k xs =
    omega (arith, ints, sum_at-times ps k xs, ap (λ (x : ℤ). p.by *ℤ x) (number_at-times k xs p.variable), swapped p.by k (number_at xs p.variable), times_sum k (p.by *ℤ number_at xs p.variable) (sum_at ps xs))
  where
    swapped : (a b c : ℤ) → a *ℤ (b *ℤ c) ≡ b *ℤ (a *ℤ c)
    swapped a b c = sym (regroup a b c) ∙ ap (λ (x : ℤ). x *ℤ c) (*ℤ_comm a b) ∙ regroup b a c

pub dot-plus : (ms xs ys : List ℤ) → length xs ≡ length ys → dot ms (plus xs ys) ≡ dot ms xs +ℤ dot ms ys
dot-plus [] xs ys h = refl
dot-plus (m ∷ ms) [] [] h = refl
dot-plus (m ∷ ms) [] (y ∷ ys) h = absurd (omega (arith, h))
dot-plus (m ∷ ms) (x ∷ xs) [] h = absurd (omega (arith, h))
dot-plus (m ∷ ms) (x ∷ xs) (y ∷ ys) h = omega (arith, ints, dot-plus ms xs ys (omega (arith, h)), times_sum m x y)

pub dot-times : (ms : List ℤ) (k : ℤ) (xs : List ℤ) → dot ms (times k xs) ≡ k *ℤ dot ms xs
dot-times [] k xs = sym (*ℤ-zero k)
dot-times (m ∷ ms) k [] = sym (*ℤ-zero k)
dot-times (m ∷ ms) k (x ∷ xs) =
    omega (arith, ints, dot-times ms k xs, sym (regroup m k x) ∙ ap (λ (y : ℤ). y *ℤ x) (*ℤ_comm m k) ∙ regroup k m x, times_sum k (m *ℤ x) (dot ms xs))
