-- Products and quotients of integers.
use Rattle.std.proofs.Common.{◌≡◌, ℕ, zero, suc, ◌+◌, ◌*◌, ◌/◌, ◌<◌, ◌≤◌, ℤ, pos, negsuc, neg_ℤ, ◌+ℤ◌, ◌-ℤ◌, ◌*ℤ◌, ◌≤ℤ◌, ◌<ℤ◌, int_le, int_div, unsigned_abs, Bool, true, false, not, ap, sym, refl, arith}
use Rattle.std.proofs.lemmas.Int.{ints}
use Rattle.std.proofs.Math.Nat.{mul-le-mul_left, mul-div_cancel'}
use Rattle.std.specs.Int.{int_div_euclid}
use Prim.Native.Nat.{◌∣◌}
use borrow.Author.Differences.{up, down, sum_is_lem, product_is}

pub over_sum : (a b c : ℤ) → (a +ℤ b) *ℤ c ≡ a *ℤ c +ℤ b *ℤ c
over_sum a b c =
    omega (arith, ints, ap (λ (n : ℕ). n * up c) (sum_is_lem a b), ap (λ (n : ℕ). n * down c) (sum_is_lem a b))

pub times_sum : (a b c : ℤ) → a *ℤ (b +ℤ c) ≡ a *ℤ b +ℤ a *ℤ c
times_sum a b c =
    omega (arith, ints, ap (λ (n : ℕ). up a * n) (sum_is_lem b c), ap (λ (n : ℕ). down a * n) (sum_is_lem b c))

pub regroup : (a b c : ℤ) → (a *ℤ b) *ℤ c ≡ a *ℤ (b *ℤ c)
regroup a b c =
    omega (arith, ints, ap (λ (n : ℕ). n * up c) (product_is a b).0, ap (λ (n : ℕ). n * down c) (product_is a b).0, ap (λ (n : ℕ). n * up c) (product_is a b).1, ap (λ (n : ℕ). n * down c) (product_is a b).1, ap (λ (n : ℕ). up a * n) (product_is b c).0, ap (λ (n : ℕ). up a * n) (product_is b c).1, ap (λ (n : ℕ). down a * n) (product_is b c).0, ap (λ (n : ℕ). down a * n) (product_is b c).1)

pub times_le : (m x b : ℤ) → pos 0 <ℤ m → x ≤ℤ b → (m *ℤ x) ≤ℤ (m *ℤ b)
times_le (pos n) x b p h =
    let k : up x + down b ≤ up b + down x = omega (arith, ints) in
    omega (arith, ints, mul-le-mul_left n k)
times_le (negsuc n) x b p h = absurd (omega (arith, ints))

-- an integer is at most a quotient that is rounded down exactly where the product is at most the number

below_from_div : (d b s : ℕ) → 0 < d → b / d < s → b < d * s
below_from_div d b s p h =
    let more : suc (b / d) ≤ s = omega arith in
    omega (arith, mul-le-mul_left d more)

at_least_from_div : (d b s : ℕ) → 0 < d → s ≤ b / d → d * s ≤ b
at_least_from_div d b s p h = omega (arith, mul-le-mul_left d h)

pub le-int_div_euclid : (d : ℕ) (s b : ℤ) → 0 < d → s ≤ℤ int_div_euclid b (pos d) → (pos d *ℤ s) ≤ℤ b
le-int_div_euclid d (pos s) (pos b) p h =
    let k : s ≤ b / d = omega (arith, ints) in
    omega (arith, ints, at_least_from_div d b s p k)
le-int_div_euclid d (pos s) (negsuc b) p h = absurd (omega (arith, ints))
le-int_div_euclid d (negsuc s) (pos b) p h = omega (arith, ints)
le-int_div_euclid d (negsuc s) (negsuc b) p h =
    let k : b / d < suc s = omega (arith, ints) in
    omega (arith, ints, below_from_div d b (suc s) p k)

div_at_most : (d b s : ℕ) → 0 < d → b < d * suc s → b / d ≤ s
div_at_most d b s p h = grind (arith, at_least_from_div d b (suc s) p)

div_at_least : (d b s : ℕ) → 0 < d → d * s ≤ b → s ≤ b / d
div_at_least d b s p h = grind (arith, below_from_div d b s p)

pub int_div_euclid-le : (d : ℕ) (s b : ℤ) → 0 < d → (pos d *ℤ s) ≤ℤ b → s ≤ℤ int_div_euclid b (pos d)
int_div_euclid-le d (pos s) (pos b) p h =
    let k : d * s ≤ b = omega (arith, ints) in
    omega (arith, ints, div_at_least d b s p k)
int_div_euclid-le d (pos s) (negsuc b) p h = absurd (omega (arith, ints))
int_div_euclid-le d (negsuc s) (pos b) p h = omega (arith, ints)
int_div_euclid-le d (negsuc s) (negsuc b) p h =
    let k : b < d * suc s = omega (arith, ints) in
    omega (arith, ints, div_at_most d b s p k)

-- tests and facts
pub le_of_test : (s b : ℤ) → int_le s b ≡ true → s ≤ℤ b
le_of_test s b e = grind (arith, ints, e)

pub test_of_le : (s b : ℤ) → s ≤ℤ b → int_le s b ≡ true
test_of_le s b h = grind (arith, ints, h)

same_tests : (x y : Bool) → (x ≡ true → y ≡ true) → (y ≡ true → x ≡ true) → x ≡ y
same_tests true y p q = sym (p refl)
same_tests false true p q = q refl
same_tests false false p q = refl

-- an inequality and the one divided hold alike
pub divided_holds : (d : ℕ) (s b : ℤ) → 0 < d → int_le s (int_div_euclid b (pos d)) ≡ int_le (pos d *ℤ s) b
divided_holds d s b p =
    same_tests (int_le s (int_div_euclid b (pos d))) (int_le (pos d *ℤ s) b)
    (λ e. test_of_le (pos d *ℤ s) b (le-int_div_euclid d s b p (le_of_test s (int_div_euclid b (pos d)) e)))
    (λ e. test_of_le s (int_div_euclid b (pos d)) (int_div_euclid-le d s b p (le_of_test (pos d *ℤ s) b e)))

-- the complement holds where the inequality does not
pub opposite_holds : (s b : ℤ) → int_le (neg_ℤ s) (neg_ℤ b -ℤ pos 1) ≡ not (int_le s b)
opposite_holds s b = by_test (int_le s b) refl
  where
    by_test : (t : Bool) → int_le s b ≡ t → int_le (neg_ℤ s) (neg_ℤ b -ℤ pos 1) ≡ not t
    by_test true e = grind (arith, ints, e)
    by_test false e = grind (arith, ints, e)

-- exact quotients
negative_quotient : (d q n : ℕ) → d * q ≡ suc n → pos d *ℤ neg_ℤ (pos q) ≡ negsuc n
negative_quotient d zero n e = absurd (omega (arith, e))
negative_quotient d (suc q) n e = omega (arith, ints, e)

pub exact_quotient : (d : ℕ) (x : ℤ) → d ∣ unsigned_abs x → pos d *ℤ int_div x (pos d) ≡ x
exact_quotient d (pos n) h = omega (arith, ints, mul-div_cancel' d h)
exact_quotient d (negsuc n) h = negative_quotient d (suc n / d) n (mul-div_cancel' d h)

pub neg_twice : (x : ℤ) → neg_ℤ (neg_ℤ x) ≡ x
neg_twice x = omega (arith, ints)

pub below_twice : (x : ℤ) → neg_ℤ (neg_ℤ x -ℤ pos 1) -ℤ pos 1 ≡ x
below_twice x = omega (arith, ints)
