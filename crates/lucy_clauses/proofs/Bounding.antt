-- One variable with a factor of 1 or -1 is in normal form.
use Rattle.std.proofs.Common.{◌≡◌, ℕ, ◌&&◌, ◌^◌, nat_le, Bool, true, not, ℤ, unsigned_abs, [], ◌∷◌, ap, refl, subst, arith}
use Prim.Native.Nat.{◌∣◌}
use Rattle.std.proofs.Math.Nat.{eq-one_of_dvd-one}
use Rattle.lucy_clauses.specs.Parts.{is_zero, is_within}
use Rattle.lucy_clauses.specs.Bounds.{part}
use Rattle.lucy_clauses.specs.Normal.{IsNormal}
use Rattle.lucy_clauses.proofs.Divisors.{not_zero_test}

pub is_unit_within : (x : ℤ) → unsigned_abs x ≡ 1 → is_within x ≡ true
is_unit_within x h = ap (λ (n : ℕ). nat_le n (2 ^ 126)) h

one_nonzero : (n : ℕ) → n ≡ 1 → n ≡ 0 → ⊥
one_nonzero n h k = omega (arith, h, k)

pub is_unit_nonzero : (v : ℕ) (x : ℤ) → unsigned_abs x ≡ 1 → not (is_zero (part v x)) ≡ true
is_unit_nonzero v x h = not_zero_test x (λ e. one_nonzero (unsigned_abs x) h (ap unsigned_abs e))

pub and_true : (x : Bool) → x ≡ true → (x && true) ≡ true
and_true x h = ap (λ (y : Bool). y && true) h

pub one_divides : (d : ℕ) (x : ℤ) → unsigned_abs x ≡ 1 → d ∣ unsigned_abs x → d ≡ 1
one_divides d x h k = eq-one_of_dvd-one (subst (λ (n : ℕ). d ∣ n) h k)

pub single_normal : (v : ℕ) (x : ℤ) → unsigned_abs x ≡ 1 → IsNormal (part v x ∷ [])
single_normal v x h = record {
  some = omega arith;
  ascending = refl;
  nonzero = and_true _ (is_unit_nonzero v x h);
  within = and_true _ (is_unit_within x h);
  coprime = λ d k. one_divides d x h k.0;
}
