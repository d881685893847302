-- The two cases that are answered first.
use Rattle.std.proofs.Common.{◌≡◌, ℕ, zero, suc, nat_lt, Bool, true, false, if◌then◌else◌, int_lt, ℤ, pos, negsuc, neg_ℤ, ◌+ℤ◌, ◌-ℤ◌, ◌*ℤ◌, ◌≤ℤ◌, List, [], ◌∷◌, length, map, slice_get, Some, ap, ◌∙◌, refl, arith}
use Rattle.std.proofs.lemmas.Int.{ints}
use Rattle.std.proofs.lemmas.Bool.Decides.{nat_tests}
use Rattle.std.proofs.Math.IntN.{zero-*ℤ}
use Rattle.lucy_clauses.proofs.Mapping.{two_tests, both_tests}
use Rattle.lucy_clauses.specs.declared.parts.Part.{Part}
use Rattle.lucy_clauses.specs.declared.formulas.Range.{Range}
use Rattle.lucy_clauses.specs.Sums.{Form, number_at, sum_at}
use Rattle.lucy_clauses.specs.Formulas.{names_below}
use Rattle.lucy_simplex.specs.Systems.{dot, rows_left, rows_right, NoneNegative, RowsHold, BoundsHold, lows_of, highs_of}
use Rattle.lucy_simplex.specs.First.{bumped, zeros, dense}
use Rattle.lucy_simplex.specs.Sure.{low_part, high_part, LowsHold, AreOrdered}
use Rattle.lucy_simplex.proofs.Statements.{LowsSatisfy, RowAloneRefutes}
use Rattle.lucy_simplex.proofs.Dots.{neg_times}
use Rattle.lucy_simplex.proofs.Firsts.{dot-dense, length-dense, length-bumped, length-zeros}

rows_one : (rows : List Form) (los : List ℤ) → LowsHold rows los → RowsHold 1 rows los
rows_one [] los h = tt
rows_one (r ∷ rs) los h = (let k = h.0 in omega (arith, ints, k), rows_one rs los h.1)

bounds_one : (bs : List Range) → AreOrdered bs → BoundsHold 1 bs (lows_of bs)
bounds_one [] h = tt
bounds_one (b ∷ bs) h = (omega (arith, ints), let k = h.0 in omega (arith, ints, k), bounds_one bs h.1)

pub lows_satisfy_lem : LowsSatisfy
lows_satisfy_lem rows bounds point ordered holds over = record {
  below = 1;
  positive = omega arith;
  tops = lows_of bounds;
  are_over = over;
  rows_hold = rows_one rows (lows_of bounds) holds;
  bounds_hold = bounds_one bounds ordered;
}

-- ---- a row alone

left_zeros : (rows : List Form) (m : ℕ) (a : List ℤ) → rows_left rows (zeros m) a ≡ pos 0
left_zeros [] m a = refl
left_zeros (r ∷ rs) zero a = refl
left_zeros (r ∷ rs) (suc m) a = omega (arith, ints, left_zeros rs m a, zero-*ℤ (sum_at r.parts a))

right_zeros : (rows : List Form) (m : ℕ) → rows_right rows (zeros m) ≡ pos 0
right_zeros [] m = refl
right_zeros (r ∷ rs) zero = refl
right_zeros (r ∷ rs) (suc m) = omega (arith, ints, right_zeros rs m, zero-*ℤ r.bound)

left_alone : (rows : List Form) (i : ℕ) (r : Form) (a : List ℤ) → slice_get rows i ≡ Some r → rows_left rows (bumped (zeros (length rows)) i (pos 1)) a ≡ sum_at r.parts a
left_alone [] i r a h = absurd (cc)
left_alone (s ∷ rs) zero r a h =
    let same : s ≡ r = cc in
    omega (arith, ints, left_zeros rs (length rs) a, ap (λ (x : Form). sum_at x.parts a) same)
left_alone (s ∷ rs) (suc i) r a h = omega (arith, ints, left_alone rs i r a h, zero-*ℤ (sum_at s.parts a))

right_alone : (rows : List Form) (i : ℕ) (r : Form) → slice_get rows i ≡ Some r → rows_right rows (bumped (zeros (length rows)) i (pos 1)) ≡ r.bound
right_alone [] i r h = absurd (cc)
right_alone (s ∷ rs) zero r h =
    let same : s ≡ r = cc in
    omega (arith, ints, right_zeros rs (length rs), ap (λ (x : Form). x.bound) same)
right_alone (s ∷ rs) (suc i) r h = omega (arith, ints, right_alone rs i r h, zero-*ℤ s.bound)

names_low : (n : ℕ) (ps : List Part) → names_below n ps ≡ true → names_below n (map low_part ps) ≡ true
names_low n [] h = refl
names_low n (p ∷ ps) h =
    let t = two_tests (nat_lt p.variable n) (names_below n ps) h in
    both_tests (nat_lt p.variable n) (names_below n (map low_part ps)) t.0 (names_low n ps t.1)

names_high : (n : ℕ) (ps : List Part) → names_below n ps ≡ true → names_below n (map high_part ps) ≡ true
names_high n [] h = refl
names_high n (p ∷ ps) h =
    let t = two_tests (nat_lt p.variable n) (names_below n ps) h in
    both_tests (nat_lt p.variable n) (names_below n (map high_part ps)) t.0 (names_high n ps t.1)

-- a sum is that of its factors above 0 less that of the others with the other sign
two_sums : (ps : List Part) (a : List ℤ) → sum_at (map low_part ps) a -ℤ sum_at (map high_part ps) a ≡ sum_at ps a
two_sums [] a = refl
two_sums (p ∷ ps) a = by_test (sum_at (map low_part ps) a) (sum_at (map high_part ps) a) (sum_at ps a) (int_lt p.by (pos 0)) p.by (number_at a p.variable) (two_sums ps a)
  where
    by_test : (l h s : ℤ) (b : Bool) (x y : ℤ) → l -ℤ h ≡ s → ((if b then pos 0 else x) *ℤ y +ℤ l) -ℤ ((if b then neg_ℤ x else pos 0) *ℤ y +ℤ h) ≡ x *ℤ y +ℤ s
    by_test l h s true x y e = omega (arith, ints, e, zero-*ℤ y, neg_times x y)
    by_test l h s false x y e = omega (arith, ints, e, zero-*ℤ y)

sign_sum : (xs : List ℤ) (i : ℕ) (k : ℤ) → pos 0 ≤ℤ k → NoneNegative xs → NoneNegative (bumped xs i k)
sign_sum [] i k h all = tt
sign_sum (x ∷ xs) zero k h all = (let a = all.0 in omega (arith, ints, a, h), all.1)
sign_sum (x ∷ xs) (suc i) k h all = (all.0, sign_sum xs i k h all.1)

sign_zeros : (k : ℕ) → NoneNegative (zeros k)
sign_zeros zero = tt
sign_zeros (suc k) = (omega (arith, ints), sign_zeros k)

low_sign : (x : ℤ) → pos 0 ≤ℤ (if int_lt x (pos 0) then pos 0 else x)
low_sign (pos n) = by_test (nat_lt n 0)
  where
    by_test : (b : Bool) → pos 0 ≤ℤ (if b then pos 0 else pos n)
    by_test true = omega (arith, ints)
    by_test false = omega (arith, ints)
low_sign (negsuc n) = omega (arith, ints)

high_sign : (x : ℤ) → pos 0 ≤ℤ (if int_lt x (pos 0) then neg_ℤ x else pos 0)
high_sign (pos n) = by_test (nat_lt n 0) refl
  where
    by_test : (b : Bool) → nat_lt n 0 ≡ b → pos 0 ≤ℤ (if b then neg_ℤ (pos n) else pos 0)
    by_test true e = absurd (grind (arith, nat_tests))
    by_test false e = omega (arith, ints)
high_sign (negsuc n) = omega (arith, ints)

sign_low : (n : ℕ) (ps : List Part) → NoneNegative (dense n (map low_part ps))
sign_low n [] = sign_zeros n
sign_low n (p ∷ ps) = sign_sum (dense n (map low_part ps)) p.variable (low_part p).by (low_sign p.by) (sign_low n ps)

sign_high : (n : ℕ) (ps : List Part) → NoneNegative (dense n (map high_part ps))
sign_high n [] = sign_zeros n
sign_high n (p ∷ ps) = sign_sum (dense n (map high_part ps)) p.variable (high_part p).by (high_sign p.by) (sign_high n ps)

pub row_alone_refutes_lem : RowAloneRefutes
row_alone_refutes_lem rows bounds i r there names above = record {
  rows_count = length-bumped (zeros (length rows)) i (pos 1) ∙ length-zeros (length rows);
  lows_count = length-dense n (map low_part r.parts);
  highs_count = length-dense n (map high_part r.parts);
  rows_sign = sign_sum (zeros (length rows)) i (pos 1) (omega (arith, ints)) (sign_zeros (length rows));
  lows_sign = sign_low n r.parts;
  highs_sign = sign_high n r.parts;
  left = λ a h. left_is a;
  right = omega (arith, ints, above, right_alone rows i r there, dot-dense n (map high_part r.parts) (highs_of bounds) (names_high n r.parts names), dot-dense n (map low_part r.parts) (lows_of bounds) (names_low n r.parts names));
}
  where
    n : ℕ
    n = length bounds

    left_is : (a : List ℤ) → rows_left rows (bumped (zeros (length rows)) i (pos 1)) a +ℤ (dot (dense (length bounds) (map high_part r.parts)) a -ℤ dot (dense (length bounds) (map low_part r.parts)) a) ≡ pos 0
    left_is a =
        let l = dot-dense (length bounds) (map low_part r.parts) a (names_low (length bounds) r.parts names) in
        let h = dot-dense (length bounds) (map high_part r.parts) a (names_high (length bounds) r.parts names) in
        omega (arith, ints, left_alone rows i r a there, l, h, two_sums r.parts a)
