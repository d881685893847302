-- Greatest common divisors, and numbers that have none but 1.
use Rattle.std.proofs.Common.{◌≡◌, ℕ, zero, suc, ◌*◌, ◌/◌, ◌%◌, ◌<◌, ap, sym, ◌∙◌, subst, refl, arith}
use Prim.Native.Nat.{◌∣◌}
use Rattle.std.proofs.lemmas.Nat.Gcd.{dvd_antisymm, IsGcd-from_zero, IsGcd-from_mod, IsGcd-swap}
use Rattle.std.proofs.Math.Nat.{dvd-mul_left, dvd-mul_right, dvd_of_mul-dvd-mul_left, mul-dvd-mul_left, mul-div_cancel, mul-div_cancel', eq-one_of_dvd-one, pos_of_dvd_of_pos, one-dvd}
use Rattle.std.specs.Int.{IsGcd}
use Rattle.lucy_fraction.specs.Rationals.{IsLowest}

times_one : (g : ℕ) → g * 1 ≡ g
times_one g = omega arith

-- divided by their greatest common divisor, two numbers have none but 1
coprime_left : (g s d : ℕ) → 0 < g → IsGcd (g * s) (g * d) g → IsGcd s d 1
coprime_left g s d some is = (
  one-dvd s,
  one-dvd d,
  λ e p q. dvd_of_mul-dvd-mul_left {k = g} e {n = 1} some
      (subst (λ (x : ℕ). g * e ∣ x) (sym (times_one g)) (is.2 (g * e) (mul-dvd-mul_left e g p) (mul-dvd-mul_left e g q))),
)

pub lowest_terms : (size bottom g : ℕ) → 0 < bottom → IsGcd size bottom g → IsLowest size bottom (size / g) (bottom / g)
lowest_terms size bottom g some is =
    let a = mul-div_cancel' g is.0 in
    let b = mul-div_cancel' g is.1 in
    record {
      common = g;
      size_is = sym a;
      bottom_is = sym b;
      coprime = coprime_left g (size / g) (bottom / g) (pos_of_dvd_of_pos is.1 some) (subst (λ (x : ℕ). IsGcd x (g * (bottom / g)) g) (sym a) (subst (λ (y : ℕ). IsGcd size y g) (sym b) is));
    }

-- 0 over any number is 0 over 1, and a number over 1 is in its lowest terms
pub lowest_of_zero : (size bottom : ℕ) → size ≡ 0 → IsLowest size bottom 0 1
lowest_of_zero size bottom none = record {
  common = bottom;
  size_is = omega (arith, none);
  bottom_is = sym (times_one bottom);
  coprime = IsGcd-swap 1 0 1 (IsGcd-from_zero 1 0 refl);
}

pub lowest_of_whole : (size bottom : ℕ) → bottom ≡ 1 → IsLowest size bottom size 1
lowest_of_whole size bottom one = record {
  common = 1;
  size_is = omega arith;
  bottom_is = one;
  coprime = (one-dvd size, one-dvd 1, λ e p q. q);
}

gcd_exists : (n a b : ℕ) → b < n → (g : ℕ) × IsGcd a b g
gcd_exists zero a b h = absurd (omega arith)
gcd_exists (suc n) a zero h = (a, IsGcd-from_zero a zero refl)
gcd_exists (suc n) a (suc b) h =
    let r = gcd_exists n (suc b) (a % suc b) (omega arith) in
    (r.0, IsGcd-from_mod a (suc b) r.0 r.1)

-- d times two numbers that have no common divisor have the common divisor d
gcd_scaled : (a b d : ℕ) → 0 < d → IsGcd a b 1 → (e : ℕ) → e ∣ d * a → e ∣ d * b → e ∣ d
gcd_scaled a b d some is e p q =
    let r = gcd_exists (suc (d * b)) (d * a) (d * b) (omega arith) in
    let g = r.0 in
    let m = g / d in
    let whole : d * m ≡ g = mul-div_cancel' d (r.1.2 d (dvd-mul_right d a) (dvd-mul_right d b)) in
    let left : m ∣ a = dvd_of_mul-dvd-mul_left {k = d} m {n = a} some (subst (λ (x : ℕ). x ∣ d * a) (sym whole) r.1.0) in
    let right : m ∣ b = dvd_of_mul-dvd-mul_left {k = d} m {n = b} some (subst (λ (x : ℕ). x ∣ d * b) (sym whole) r.1.1) in
    let one_left : m ≡ 1 = eq-one_of_dvd-one (is.2 m left right) in
    let same : g ≡ d = sym whole ∙ ap (λ (x : ℕ). d * x) one_left ∙ times_one d in
    subst (λ (x : ℕ). e ∣ x) same (r.1.2 e p q)

divides_other : (a b c d : ℕ) → 0 < d → IsGcd a b 1 → a * d ≡ c * b → b ∣ d
divides_other a b c d some is e =
    let turned : c * b ≡ d * a = omega (arith, e) in
    gcd_scaled a b d some is b (subst (λ (x : ℕ). b ∣ x) turned (dvd-mul_left b c)) (dvd-mul_left b d)

pub same_lowest_terms : (a b c d : ℕ) → 0 < b → 0 < d → IsGcd a b 1 → IsGcd c d 1 → a * d ≡ c * b → (a ≡ c) × (b ≡ d)
same_lowest_terms a b c d b_some d_some p q e =
    let same : b ≡ d = dvd_antisymm (divides_other a b c d d_some p e) (divides_other c d a b b_some q (sym e)) in
    let tops : a * d ≡ c * d = e ∙ ap (λ (x : ℕ). c * x) same in
    (sym (mul-div_cancel a d_some) ∙ ap (λ (x : ℕ). x / d) tops ∙ mul-div_cancel c d_some, same)
