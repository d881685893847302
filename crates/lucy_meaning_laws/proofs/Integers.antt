-- Sums, products and signs of integers.
use Rattle.std.proofs.Common.{◌≡◌, ℕ, zero, suc, ◌*◌, ℤ, pos, negsuc, neg_ℤ, ◌+ℤ◌, ◌*ℤ◌, Bool, true, false, refl, sym, ap, arith}
use Rattle.std.proofs.lemmas.Int.{ints}
use Rattle.std.proofs.Math.IntN.{neg_ℤ-+ℤ}
use borrow.Author.Differences.{up, down, sum_is_lem}

pub sum_times : (a b c : ℤ) → (a +ℤ b) *ℤ c ≡ a *ℤ c +ℤ b *ℤ c
sum_times a b c = omega (arith, ints, ap (λ (n : ℕ). n * up c) (sum_is_lem a b), ap (λ (n : ℕ). n * down c) (sum_is_lem a b))

pub times_sum : (a b c : ℤ) → a *ℤ (b +ℤ c) ≡ a *ℤ b +ℤ a *ℤ c
times_sum a b c = omega (arith, ints, ap (λ (n : ℕ). up a * n) (sum_is_lem b c), ap (λ (n : ℕ). down a * n) (sum_is_lem b c))

pub times_nothing : (x : ℤ) → pos 0 ≡ x *ℤ pos 0
times_nothing x = omega (arith, ints)

pub add_nothing : (x : ℤ) → x ≡ x +ℤ pos 0
add_nothing x = omega (arith, ints)

pub before_sum : (a b c : ℤ) → (a +ℤ b) +ℤ c ≡ a +ℤ (b +ℤ c)
before_sum a b c = omega (arith, ints)

-- ---- a sign

abbrev pub turned_by : Bool → ℤ → ℤ
turned_by true x = neg_ℤ x
turned_by false x = x

negative_times : (x y : ℤ) → neg_ℤ x *ℤ y ≡ neg_ℤ (x *ℤ y)
negative_times (pos zero) y = omega (arith, ints)
negative_times (pos (suc n)) y = omega (arith, ints)
negative_times (negsuc n) y = omega (arith, ints)

pub turned_times : (b : Bool) (x y : ℤ) → turned_by b x *ℤ y ≡ turned_by b (x *ℤ y)
turned_times true x y = negative_times x y
turned_times false x y = refl

pub turned_sum : (b : Bool) (x y : ℤ) → turned_by b x +ℤ turned_by b y ≡ turned_by b (x +ℤ y)
turned_sum true x y = sym (neg_ℤ-+ℤ x y)
turned_sum false x y = refl

pub one_times : (b : Bool) (x : ℤ) → turned_by b (pos 1) *ℤ x ≡ turned_by b x
one_times true x = omega (arith, ints)
one_times false x = omega (arith, ints)
