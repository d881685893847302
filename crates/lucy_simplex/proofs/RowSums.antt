-- Sums of a row within its bounds, part by part.
use Rattle.std.proofs.Common.{◌≡◌, ℕ, zero, suc, ◌+◌, ◌*◌, ◌≤◌, max, nat_lt, Bool, true, false, if◌then◌else◌, int_lt, ℤ, pos, neg_ℤ, ◌+ℤ◌, ◌-ℤ◌, ◌*ℤ◌, unsigned_abs, List, [], ◌∷◌, length, map, slice_index_or, ap, arith}
use Rattle.std.proofs.lemmas.Int.{ints, unsigned_abs-mul}
use Rattle.std.proofs.lemmas.Bool.Decides.{nat_tests}
use Rattle.std.proofs.Math.IntN.{zero-*ℤ}
use Rattle.std.proofs.Math.Nat.{mul-le-mul_left}
use Rattle.lucy_clauses.specs.declared.parts.Part.{Part}
use Rattle.lucy_clauses.specs.declared.formulas.Range.{Range}
use Rattle.lucy_clauses.specs.Sums.{number_at, sum_at}
use Rattle.lucy_clauses.specs.Parts.{total_size}
use Rattle.lucy_clauses.specs.Formulas.{range_size, size_at, weight}
use Rattle.lucy_simplex.specs.Systems.{lows_of, highs_of}
use Rattle.lucy_simplex.specs.Sure.{low_part, high_part, least_of}
use Rattle.lucy_simplex.proofs.Dots.{neg_times}

pub low_at : (bounds : List Range) (v : ℕ) (r : Range) → nat_lt v (length bounds) ≡ true → ((d : Range) → slice_index_or bounds v d ≡ r) → number_at (lows_of bounds) v ≡ r.lo
low_at [] v r h at = absurd (grind (arith, nat_tests))
low_at (b ∷ bs) zero r h at = ap (λ (x : Range). x.lo) (at b)
low_at (b ∷ bs) (suc v) r h at = low_at bs v r (smaller v (length bs) h) at
  where
    smaller : (a n : ℕ) → nat_lt (suc a) (suc n) ≡ true → nat_lt a n ≡ true
    smaller a n h = grind (arith, nat_tests)

pub high_at : (bounds : List Range) (v : ℕ) (r : Range) → nat_lt v (length bounds) ≡ true → ((d : Range) → slice_index_or bounds v d ≡ r) → number_at (highs_of bounds) v ≡ r.hi
high_at [] v r h at = absurd (grind (arith, nat_tests))
high_at (b ∷ bs) zero r h at = ap (λ (x : Range). x.hi) (at b)
high_at (b ∷ bs) (suc v) r h at = high_at bs v r (smaller v (length bs) h) at
  where
    smaller : (a n : ℕ) → nat_lt (suc a) (suc n) ≡ true → nat_lt a n ≡ true
    smaller a n h = grind (arith, nat_tests)

-- the number at which a part is the least
abbrev pub least_bound : List Range → Part → ℤ
least_bound bounds p = if int_lt p.by (pos 0) then number_at (highs_of bounds) p.variable else number_at (lows_of bounds) p.variable

pub least_at : (bounds : List Range) (p : Part) (r : Range) → nat_lt p.variable (length bounds) ≡ true → ((d : Range) → slice_index_or bounds p.variable d ≡ r) → least_bound bounds p ≡ (if int_lt p.by (pos 0) then r.hi else r.lo)
least_at bounds p r h at = by_test (int_lt p.by (pos 0))
  where
    by_test : (t : Bool) → (if t then number_at (highs_of bounds) p.variable else number_at (lows_of bounds) p.variable) ≡ (if t then r.hi else r.lo)
    by_test true = high_at bounds p.variable r h at
    by_test false = low_at bounds p.variable r h at

pub least_of-cons : (bounds : List Range) (p : Part) (ps : List Part) → least_of bounds (p ∷ ps) ≡ p.by *ℤ least_bound bounds p +ℤ least_of bounds ps
least_of-cons bounds p ps =
    by_test (sum_at (map low_part ps) (lows_of bounds)) (sum_at (map high_part ps) (highs_of bounds)) (int_lt p.by (pos 0)) p.by (number_at (lows_of bounds) p.variable) (number_at (highs_of bounds) p.variable)
  where
    by_test : (l h : ℤ) (t : Bool) (x lo hi : ℤ) → ((if t then pos 0 else x) *ℤ lo +ℤ l) -ℤ ((if t then neg_ℤ x else pos 0) *ℤ hi +ℤ h) ≡ x *ℤ (if t then hi else lo) +ℤ (l -ℤ h)
    by_test l h true x lo hi = omega (arith, ints, zero-*ℤ lo, neg_times x hi)
    by_test l h false x lo hi = omega (arith, ints, zero-*ℤ hi)

-- sizes
sum_size : (a b : ℤ) → unsigned_abs (a +ℤ b) ≤ unsigned_abs a + unsigned_abs b
sum_size a b = grind (arith, ints)

bounded : (x y : ℕ) → x ≤ max 1 y → x ≤ max 1 y
bounded x y h = h

-- the lower and the upper bound are at most the size of the range
pub low_size : (bounds : List Range) (v : ℕ) → unsigned_abs (number_at (lows_of bounds) v) ≤ size_at bounds v
low_size [] v = omega arith
low_size (b ∷ bs) zero = sized (unsigned_abs b.lo) (unsigned_abs b.hi)
  where
    sized : (x y : ℕ) → x ≤ max 1 (max x y)
    sized x y = omega arith
low_size (b ∷ bs) (suc v) = low_size bs v

pub high_size : (bounds : List Range) (v : ℕ) → unsigned_abs (number_at (highs_of bounds) v) ≤ size_at bounds v
high_size [] v = omega arith
high_size (b ∷ bs) zero = sized (unsigned_abs b.lo) (unsigned_abs b.hi)
  where
    sized : (x y : ℕ) → y ≤ max 1 (max x y)
    sized x y = omega arith
high_size (b ∷ bs) (suc v) = high_size bs v

pub least_size : (bounds : List Range) (p : Part) → unsigned_abs (least_bound bounds p) ≤ size_at bounds p.variable
least_size bounds p = by_test (int_lt p.by (pos 0))
  where
    by_test : (t : Bool) → unsigned_abs (if t then number_at (highs_of bounds) p.variable else number_at (lows_of bounds) p.variable) ≤ size_at bounds p.variable
    by_test true = high_size bounds p.variable
    by_test false = low_size bounds p.variable

-- one part more keeps a sum small
pub kept_small : (s by x r : ℤ) (size w most : ℕ) → unsigned_abs s + (unsigned_abs by * size + w) ≤ most → unsigned_abs x ≤ size → r ≡ s +ℤ by *ℤ x → unsigned_abs r + w ≤ most
kept_small s by x r size w most h small e = rw e (omega (arith, sum_size s (by *ℤ x), unsigned_abs-mul by x, mul-le-mul_left (unsigned_abs by) small, h))

-- ---- factors

size_above : (bounds : List Range) (v : ℕ) → 1 ≤ size_at bounds v
size_above bounds v = above (slice_index_or bounds v (record { lo = pos 0; hi = pos 0 }))
  where
    above : (r : Range) → 1 ≤ range_size r
    above r = one_of (max (unsigned_abs r.lo) (unsigned_abs r.hi))
      where
        one_of : (x : ℕ) → 1 ≤ max 1 x
        one_of x = omega arith

pub total_within : (bounds : List Range) (ps : List Part) → total_size ps ≤ weight bounds ps
total_within bounds [] = omega arith
total_within bounds (p ∷ ps) = omega (arith, mul-le-mul_left (unsigned_abs p.by) (size_above bounds p.variable), total_within bounds ps)
