-- Sizes of sums.
use Rattle.std.proofs.Common.{◌≡◌, true, ◌&&◌, ℕ, zero, suc, ◌+◌, ◌*◌, ◌≤◌, ◌^◌, max, nat_le, ℤ, ◌+ℤ◌, ◌*ℤ◌, int_le, unsigned_abs, List, [], ◌∷◌, length, ap, refl, sym, ◌∙◌, arith, lit≤, ◌≤ℤ◌}
use Rattle.std.proofs.lemmas.Int.{ints, unsigned_abs-mul}
use Rattle.std.proofs.lemmas.Bool.Decides.{nat_tests}
use Rattle.std.proofs.Math.Nat.{mul-le-mul_left}
use Rattle.lucy_clauses.specs.declared.parts.Part.{Part}
use Rattle.lucy_clauses.specs.declared.formulas.Range.{Range}
use Rattle.lucy_clauses.specs.Sums.{Form, number_at}
use Rattle.lucy_clauses.specs.Formulas.{are_within, range_size, size_at, weight, weight_at, names_below, is_narrow_atom}
use Rattle.lucy_clauses.proofs.Mapping.{two_tests}
use Rattle.lucy_clauses.proofs.Products.{le_of_test}

unsigned_abs-add : (a b : ℤ) → unsigned_abs (a +ℤ b) ≤ unsigned_abs a + unsigned_abs b
unsigned_abs-add a b = grind (arith, ints)

pub grown_size : (s by x r : ℤ) (w most : ℕ) → unsigned_abs s + (unsigned_abs by * max 1 (unsigned_abs x) + w) ≤ most → r ≡ s +ℤ by *ℤ x → unsigned_abs r + w ≤ most
grown_size s by x r w most h e =
    rw e (omega (arith, unsigned_abs-add s (by *ℤ x), unsigned_abs-mul by x, mul_le_right (unsigned_abs by) (unsigned_abs x)))
  where
    mul_le_right : (a b : ℕ) → a * b ≤ a * max 1 b
    mul_le_right a b = grind arith

within_size : (x : ℤ) (r : Range) → int_le r.lo x ≡ true → int_le x r.hi ≡ true → max 1 (unsigned_abs x) ≤ range_size r
within_size x r low high = sized x r.lo r.hi (le_of_test r.lo x low) (le_of_test x r.hi high)
  where
    sized : (x lo hi : ℤ) → lo ≤ℤ x → x ≤ℤ hi → max 1 (unsigned_abs x) ≤ max 1 (max (unsigned_abs lo) (unsigned_abs hi))
    sized x lo hi low high = grind (arith, ints)

number_size : (rs : List Range) (xs : List ℤ) (v : ℕ) → are_within rs xs ≡ true → max 1 (unsigned_abs (number_at xs v)) ≤ size_at rs v
number_size [] [] v h = lit≤ tt
number_size [] (x ∷ xs) v h = absurd (cc)
number_size (r ∷ rs) [] v h = absurd (cc)
number_size (r ∷ rs) (x ∷ xs) zero h =
    let t = two_tests (int_le r.lo x && int_le x r.hi) (are_within rs xs) h in
    let u = two_tests (int_le r.lo x) (int_le x r.hi) t.0 in
    within_size x r u.0 u.1
number_size (r ∷ rs) (x ∷ xs) (suc v) h = number_size rs xs v (two_tests (int_le r.lo x && int_le x r.hi) (are_within rs xs) h).1

weight_within : (rs : List Range) (xs : List ℤ) (ps : List Part) → are_within rs xs ≡ true → weight_at xs ps ≤ weight rs ps
weight_within rs xs [] h = lit≤ tt
weight_within rs xs (p ∷ ps) h =
    omega (arith, mul-le-mul_left (unsigned_abs p.by) (number_size rs xs p.variable h), weight_within rs xs ps h)

same_length : (rs : List Range) (xs : List ℤ) → are_within rs xs ≡ true → length rs ≡ length xs
same_length [] [] h = refl
same_length [] (x ∷ xs) h = absurd (cc)
same_length (r ∷ rs) [] h = absurd (cc)
same_length (r ∷ rs) (x ∷ xs) h = ap suc (same_length rs xs (two_tests (int_le r.lo x && int_le x r.hi) (are_within rs xs) h).1)

le_test : (n m : ℕ) → nat_le n m ≡ true → n ≤ m
le_test n m h = grind (arith, nat_tests)

-- the sums of an atom of a narrow formula are small within the ranges
pub narrow_weight : (rs : List Range) (xs : List ℤ) (t : Form) → is_narrow_atom rs t ≡ true → are_within rs xs ≡ true → weight_at xs t.parts ≤ 2 ^ 101
narrow_weight rs xs t n h =
    let u = two_tests (names_below (length rs) t.parts) (nat_le (unsigned_abs t.bound + weight rs t.parts) (2 ^ 100)) n in
    let small = le_test (unsigned_abs t.bound + weight rs t.parts) (2 ^ 100) u.1 in
    omega (arith, small, weight_within rs xs t.parts h)

pub narrow_names : (rs : List Range) (xs : List ℤ) (t : Form) → is_narrow_atom rs t ≡ true → are_within rs xs ≡ true → names_below (length xs) t.parts ≡ true
narrow_names rs xs t n h =
    let u = two_tests (names_below (length rs) t.parts) (nat_le (unsigned_abs t.bound + weight rs t.parts) (2 ^ 100)) n in
    ap (λ (k : ℕ). names_below k t.parts) (sym (same_length rs xs h)) ∙ u.0
