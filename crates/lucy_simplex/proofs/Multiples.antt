-- Common denominators, and fractions times them.
use Rattle.std.proofs.Common.{◌≡◌, ℕ, zero, suc, ◌+◌, ◌*◌, ◌/◌, ◌<◌, ◌≤◌, ◌^◌, ℤ, pos, ◌*ℤ◌, List, [], ◌∷◌, ◌++◌, length, map, take, get_or, ap, sym, ◌∙◌, refl, subst, arith}
use Prim.Native.Nat.{◌∣◌}
use Rattle.std.proofs.lemmas.List.{take_more}
use Rattle.std.proofs.lemmas.Nat.Gcd.{dvd_trans}
use Rattle.std.proofs.Math.Nat.{dvd-mul_left, dvd-mul_right, mul-div_cancel', pos_of_dvd_of_pos}
use Rattle.std.proofs.Math.IntN.{*ℤ_comm, pos-*ℤ-pos}
use Rattle.std.specs.Int.{IsGcd}
use Rattle.lucy_clauses.proofs.Products.{regroup}
use Rattle.lucy_fraction.specs.Rationals.{Ratio, IsReduced}
use Rattle.lucy_simplex.specs.Multipliers.{IsMultiple, Divide, IsCommon, AreMultipliers}
use Rattle.lucy_simplex.specs.Steps.{AreNumbers}
use Rattle.lucy_simplex.proofs.Over.{swap_right}
use Rattle.lucy_simplex.proofs.Commons.{least_multiple, both_divide}

some_product : (a b : ℕ) → 0 < a → 0 < b → 0 < a * b
some_product a b p q = grind arith

-- a / g times b, where g is the greatest common divisor, is a multiple of both
pub multiple_is : (a b g w : ℕ) → 0 < a → 0 < b → IsGcd a b g → w ≡ (a / g) * b → w ≤ 2 ^ 62 → IsMultiple a b w
multiple_is a b g w some_a some_b is e small =
    let g_some : 0 < g = pos_of_dvd_of_pos is.0 some_a in
    let left : g * (a / g) ≡ a = mul-div_cancel' g is.0 in
    let right : g * (b / g) ≡ b = mul-div_cancel' g is.1 in
    let quotient : 0 < a / g = not_none g (a / g) (subst (λ (x : ℕ). 0 < x) (sym left) some_a) in
    record {
      positive = subst (λ (x : ℕ). 0 < x) (sym e) (some_product (a / g) b quotient some_b);
      small = small;
      of_a = subst (λ (x : ℕ). a ∣ x) (sym (e ∙ turned a b g (a / g) (b / g) left right)) (dvd-mul_right a (b / g));
      of_b = subst (λ (x : ℕ). b ∣ x) (sym e) (dvd-mul_left b (a / g));
      least = λ v some of_a of_b. subst (λ (x : ℕ). x ∣ v) (sym e) (least_multiple a b g v some_a some_b is some of_a of_b);
    }
  where
    not_none : (g q : ℕ) → 0 < g * q → 0 < q
    not_none g zero h = absurd (omega (arith, h))
    not_none g (suc q) h = omega arith

    turned : (a b g q r : ℕ) → g * q ≡ a → g * r ≡ b → q * b ≡ a * r
    turned a b g q r h k = ap (λ (x : ℕ). q * x) (sym k) ∙ moved q g r ∙ ap (λ (x : ℕ). x * r) h
      where
        moved : (q g r : ℕ) → q * (g * r) ≡ (g * q) * r
        moved q g r = grind arith

pub divide_more : (v w : ℕ) (ps : List Ratio) → v ∣ w → Divide v ps → Divide w ps
divide_more v w [] h k = tt
divide_more v w (p ∷ ps) h k = (dvd_trans p.bottom k.0 h, divide_more v w ps h k.1)

divide_push : (w : ℕ) (ps : List Ratio) (p : Ratio) → Divide w ps → p.bottom ∣ w → Divide w (ps ++ p ∷ [])
divide_push w [] p h k = (k, tt)
divide_push w (q ∷ ps) p h k = (h.0, divide_push w ps p h.1 k)

pub common_more : (v w i : ℕ) (ps : List Ratio) (p : Ratio) → i < length ps → p ≡ get_or ps i p → IsReduced p → IsCommon v (take i ps) → IsMultiple v p.bottom w → IsCommon w (take (i + 1) ps)
common_more v w i ps p below is reduced h k = record {
  positive = k.positive;
  small = k.small;
  divide = rw (take_more ps i p below, sym is) (divide_push w (take i ps) p (divide_more v w (take i ps) k.of_a h.divide) k.of_b);
  least = λ u some whole. (let r = both_divide v u i ps p below is reduced h some whole in k.least u some r.0 r.1);
}

pub common_whole : (w i : ℕ) (ps : List Ratio) → length ps ≤ i → IsCommon w (take i ps) → IsCommon w ps
common_whole w i ps past h = subst (IsCommon w) (whole ps i past) h
  where
    whole : (xs : List Ratio) (i : ℕ) → length xs ≤ i → take i xs ≡ xs
    whole [] zero h = refl
    whole [] (suc i) h = refl
    whole (x ∷ xs) zero h = absurd (omega (arith, h))
    whole (x ∷ xs) (suc i) h = ap (λ (ys : List Ratio). x ∷ ys) (whole xs i (omega (arith, h)))

multipliers_push : (w : ℕ) (ps : List Ratio) (ms : List ℤ) (p : Ratio) (m : ℤ) → AreMultipliers w ps ms → m ≡ p.top *ℤ pos (w / p.bottom) → AreMultipliers w (ps ++ p ∷ []) (ms ++ m ∷ [])
multipliers_push w [] [] p m h k = (k, tt)
multipliers_push w [] (n ∷ ms) p m h k = absurd h
multipliers_push w (q ∷ ps) [] p m h k = absurd h
multipliers_push w (q ∷ ps) (n ∷ ms) p m h k = (h.0, multipliers_push w ps ms p m h.1 k)

pub multipliers_more : (w i : ℕ) (ps : List Ratio) (ms more : List ℤ) (p : Ratio) (m : ℤ) → i < length ps → p ≡ get_or ps i p → AreMultipliers w (take i ps) ms → m ≡ p.top *ℤ pos (w / p.bottom) → more ≡ ms ++ m ∷ [] → AreMultipliers w (take (i + 1) ps) more
multipliers_more w i ps ms more p m below is h k e = rw (e, take_more ps i p below, sym is) (multipliers_push w (take i ps) ms p m h k)

pub multipliers_whole : (w i : ℕ) (ps : List Ratio) (ms : List ℤ) → length ps ≤ i → AreMultipliers w (take i ps) ms → AreMultipliers w ps ms
multipliers_whole w i ps ms past h = subst (λ (qs : List Ratio). AreMultipliers w qs ms) (whole ps i past) h
  where
    whole : (xs : List Ratio) (i : ℕ) → length xs ≤ i → take i xs ≡ xs
    whole [] zero h = refl
    whole [] (suc i) h = refl
    whole (x ∷ xs) zero h = absurd (omega (arith, h))
    whole (x ∷ xs) (suc i) h = ap (λ (ys : List Ratio). x ∷ ys) (whole xs i (omega (arith, h)))

-- multipliers times the equation's denominator are its numbers times the common one
pub multiples_are : (d w : ℕ) (ps : List Ratio) (xs ms : List ℤ) → AreNumbers d ps xs → Divide w ps → AreMultipliers w ps ms → map (λ (x : ℤ). pos d *ℤ x) ms ≡ map (λ (x : ℤ). pos w *ℤ x) xs
multiples_are d w [] [] [] h k m = refl
multiples_are d w [] [] (n ∷ ms) h k m = absurd m
multiples_are d w [] (x ∷ xs) ms h k m = absurd h
multiples_are d w (p ∷ ps) [] ms h k m = absurd h
multiples_are d w (p ∷ ps) (x ∷ xs) [] h k m = absurd m
multiples_are d w (p ∷ ps) (x ∷ xs) (n ∷ ms) h k m =
    ap (λ (y : ℤ). y ∷ map (λ (x : ℤ). pos d *ℤ x) ms) (one p.top x n p.bottom d w (w / p.bottom) (mul-div_cancel' p.bottom k.0) m.0 h.0.same)
    ∙ ap (λ (ys : List ℤ). (pos w *ℤ x) ∷ ys) (multiples_are d w ps xs ms h.1 k.1 m.1)
  where
    -- d m = d t k = x b k = x w
    one : (t x m : ℤ) (b d w k : ℕ) → b * k ≡ w → m ≡ t *ℤ pos k → t *ℤ pos d ≡ x *ℤ pos b → pos d *ℤ m ≡ pos w *ℤ x
    one t x m b d w k whole is same =
        ap (λ (z : ℤ). pos d *ℤ z) is ∙ *ℤ_comm (pos d) (t *ℤ pos k) ∙ swap_right t (pos k) (pos d) ∙ ap (λ (z : ℤ). z *ℤ pos k) same ∙ regroup x (pos b) (pos k)
        ∙ ap (λ (z : ℤ). x *ℤ z) (pos-*ℤ-pos b k ∙ ap (λ (n : ℕ). pos n) whole) ∙ *ℤ_comm x (pos w)
