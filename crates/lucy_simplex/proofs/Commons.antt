-- Common denominators that are the least, or past the limit.
use Rattle.std.proofs.Common.{◌≡◌, ℕ, zero, suc, ◌+◌, ◌-◌, ◌*◌, ◌/◌, ◌%◌, ◌<◌, ◌≤◌, ◌^◌, pos, unsigned_abs, List, [], ◌∷◌, ◌++◌, length, take, drop, get_or, ap, sym, ◌∙◌, refl, subst, arith}
use Prim.Native.Nat.{◌∣◌}
use Rattle.std.proofs.lemmas.Nat.Gcd.{IsGcd-from_zero, IsGcd-from_mod, le_of_dvd}
use Rattle.std.proofs.lemmas.Int.{unsigned_abs-mul}
use Rattle.std.proofs.lemmas.List.{take_more}
use Rattle.std.proofs.Math.Nat.{dvd-mul_left, dvd-mul_right, dvd_of_mul-dvd-mul_left, mul-dvd-mul_left, mul-dvd-mul_right, mul-div_cancel', eq-one_of_dvd-one, pos_of_dvd_of_pos, one-dvd}
use Rattle.std.specs.Int.{IsGcd}
use Rattle.lucy_fraction.specs.Rationals.{Ratio, IsReduced}
use Rattle.lucy_simplex.specs.Multipliers.{AreMultiplesWide, MakesWhole, MakesAllWhole, IsCommon, AreCommonsWide}

times_one : (g : ℕ) → g * 1 ≡ g
times_one g = omega arith

gcd_exists : (n a b : ℕ) → b < n → (g : ℕ) × IsGcd a b g
gcd_exists zero a b h = absurd (omega arith)
gcd_exists (suc n) a zero h = (a, IsGcd-from_zero a zero refl)
gcd_exists (suc n) a (suc b) h =
    let r = gcd_exists n (suc b) (a % suc b) (omega arith) in
    (r.0, IsGcd-from_mod a (suc b) r.0 r.1)

-- d times two numbers that have no common divisor have the common divisor d
gcd_scaled : (a b d : ℕ) → 0 < d → IsGcd a b 1 → (e : ℕ) → e ∣ d * a → e ∣ d * b → e ∣ d
gcd_scaled a b d some is e p q =
    let r = gcd_exists (suc (d * b)) (d * a) (d * b) (omega arith) in
    let g = r.0 in
    let m = g / d in
    let whole : d * m ≡ g = mul-div_cancel' d (r.1.2 d (dvd-mul_right d a) (dvd-mul_right d b)) in
    let left : m ∣ a = dvd_of_mul-dvd-mul_left {k = d} m {n = a} some (subst (λ (x : ℕ). x ∣ d * a) (sym whole) r.1.0) in
    let right : m ∣ b = dvd_of_mul-dvd-mul_left {k = d} m {n = b} some (subst (λ (x : ℕ). x ∣ d * b) (sym whole) r.1.1) in
    let same : g ≡ d = sym whole ∙ ap (λ (x : ℕ). d * x) (eq-one_of_dvd-one (is.2 m left right)) ∙ times_one d in
    subst (λ (x : ℕ). e ∣ x) same (r.1.2 e p q)

-- divided by their greatest common divisor, two numbers have none but 1
coprime_parts : (g s d : ℕ) → 0 < g → IsGcd (g * s) (g * d) g → IsGcd s d 1
coprime_parts g s d some is = (
  one-dvd s,
  one-dvd d,
  λ e p q. dvd_of_mul-dvd-mul_left {k = g} e {n = 1} some
      (subst (λ (x : ℕ). g * e ∣ x) (sym (times_one g)) (is.2 (g * e) (mul-dvd-mul_left e g p) (mul-dvd-mul_left e g q))),
)

-- a / g times b divides each multiple of a and b
pub least_multiple : (a b g v : ℕ) → 0 < a → 0 < b → IsGcd a b g → 0 < v → a ∣ v → b ∣ v → (a / g) * b ∣ v
least_multiple a b g v some_a some_b is some of_a of_b =
    let g_some : 0 < g = pos_of_dvd_of_pos is.0 some_a in
    let s = a / g in
    let d = b / g in
    let k = v / b in
    let left : g * s ≡ a = mul-div_cancel' g is.0 in
    let right : g * d ≡ b = mul-div_cancel' g is.1 in
    let whole : b * k ≡ v = mul-div_cancel' b of_b in
    let coprime : IsGcd s d 1 = coprime_parts g s d g_some (subst (λ (x : ℕ). IsGcd x (g * d) g) (sym left) (subst (λ (y : ℕ). IsGcd a y g) (sym right) is)) in
    let inner : g * s ∣ g * (k * d) = subst (λ (x : ℕ). x ∣ g * (k * d)) (sym left) (subst (λ (y : ℕ). a ∣ y) (sym whole ∙ ap (λ (x : ℕ). x * k) (sym right) ∙ turned g d k) of_a) in
    let of_k : s ∣ k = gcd_scaled s d k (not_none b k (subst (λ (x : ℕ). 0 < x) (sym whole) some)) coprime s (dvd-mul_left s k) (dvd_of_mul-dvd-mul_left {k = g} s {n = k * d} g_some inner) in
    subst (λ (x : ℕ). s * b ∣ x) (swapped k b ∙ whole) (mul-dvd-mul_right s of_k b)
  where
    turned : (g d k : ℕ) → (g * d) * k ≡ g * (k * d)
    turned g d k = grind arith

    swapped : (k b : ℕ) → k * b ≡ b * k
    swapped k b = grind arith

    not_none : (b k : ℕ) → 0 < b * k → 0 < k
    not_none b zero h = absurd (omega (arith, h))
    not_none b (suc k) h = omega arith

pub wide_multiple : (a b g w : ℕ) → 0 < a → 0 < b → IsGcd a b g → w ≡ (a / g) * b → 2 ^ 62 < w → AreMultiplesWide a b
wide_multiple a b g w some_a some_b is e wide v some of_a of_b =
    let small : (a / g) * b ≤ v = le_of_dvd some (least_multiple a b g v some_a some_b is some of_a of_b) in
    omega (arith, small, e, wide)

-- what makes a reduced fraction whole is a multiple of its bottom
pub bottom_divides : (v : ℕ) (p : Ratio) → 0 < v → IsReduced p → MakesWhole v p → p.bottom ∣ v
bottom_divides v p some reduced h =
    let sizes : v * unsigned_abs p.top ≡ unsigned_abs h.0 * p.bottom = sym (unsigned_abs-mul (pos v) p.top) ∙ ap unsigned_abs h.1 ∙ unsigned_abs-mul h.0 (pos p.bottom) in
    gcd_scaled (unsigned_abs p.top) p.bottom v some reduced.coprime p.bottom (subst (λ (x : ℕ). p.bottom ∣ x) (sym sizes) (dvd-mul_left p.bottom (unsigned_abs h.0))) (dvd-mul_left p.bottom v)

whole_front : (v : ℕ) (ps : List Ratio) (p : Ratio) → MakesAllWhole v (ps ++ p ∷ []) → MakesAllWhole v ps × MakesWhole v p
whole_front v [] p h = (tt, h.0)
whole_front v (q ∷ ps) p h = (let r = whole_front v ps p h.1 in ((h.0, r.0), r.1))

whole_taken : (v i k : ℕ) (ps : List Ratio) → i ≤ k → MakesAllWhole v (take k ps) → MakesAllWhole v (take i ps)
whole_taken v zero k [] h w = tt
whole_taken v zero k (p ∷ ps) h w = tt
whole_taken v (suc i) zero ps h w = absurd (omega (arith, h))
whole_taken v (suc i) (suc k) [] h w = tt
whole_taken v (suc i) (suc k) (p ∷ ps) h w = (w.0, whole_taken v i k ps (omega (arith, h)) w.1)

pub common_first : (ps : List Ratio) → IsCommon 1 (take 0 ps)
common_first [] = record { positive = omega arith; small = omega arith; divide = tt; least = λ v some h. one-dvd v }
common_first (p ∷ ps) = record { positive = omega arith; small = omega arith; divide = tt; least = λ v some h. one-dvd v }

-- the least of some is a divisor of what makes one more whole, and so is the bottom of that one
pub both_divide : (w v i : ℕ) (ps : List Ratio) (p : Ratio) → i < length ps → p ≡ get_or ps i p → IsReduced p → IsCommon w (take i ps) → 0 < v → MakesAllWhole v (take (i + 1) ps) → (w ∣ v) × (p.bottom ∣ v)
both_divide w v i ps p below is reduced common some h =
    let r = whole_front v (take i ps) p (subst (MakesAllWhole v) (take_more ps i p below ∙ ap (λ (x : Ratio). take i ps ++ x ∷ []) (sym is)) h) in
    (common.least v some r.0, bottom_divides v p some reduced r.1)

pub commons_wide : (w variables i n : ℕ) (ps : List Ratio) (p : Ratio) → i < length ps → p ≡ get_or ps i p → IsReduced p → IsCommon w (take i ps) → AreMultiplesWide w p.bottom → n ≡ i - variables → AreCommonsWide variables ps n
commons_wide w variables i n ps p below is reduced common wide e v some h =
    let r = both_divide w v i ps p below is reduced common some (whole_taken v (i + 1) (variables + n + 1) ps (omega (arith, e)) h) in
    wide v some r.0 r.1

-- the numbers behind the first two, as a slice and as a list
pub behind_two : (ps : List Ratio) → take (length ps - 2) (drop 2 ps) ≡ drop 2 ps
behind_two [] = refl
behind_two (p ∷ []) = refl
behind_two (p ∷ q ∷ ps) = ap (λ (n : ℕ). take n (drop 2 (p ∷ q ∷ ps))) (let e : length (p ∷ q ∷ ps) - 2 ≡ length ps = omega arith in e) ∙ ap (take (length ps)) (none ps) ∙ whole ps ∙ sym (none ps)
  where
    none : (xs : List Ratio) → drop 0 xs ≡ xs
    none [] = refl
    none (x ∷ xs) = refl

    whole : (xs : List Ratio) → take (length xs) xs ≡ xs
    whole [] = refl
    whole (x ∷ xs) = ap (λ (ys : List Ratio). x ∷ ys) (whole xs)
