-- Common divisors of factors, and factors divided by them.
use Rattle.std.proofs.Common.{◌≡◌, ℕ, zero, suc, ◌*◌, ◌/◌, ◌%◌, ◌<◌, ◌≤◌, ◌^◌, Bool, true, false, not, nat_le, ℤ, pos, negsuc, neg_ℤ, ◌*ℤ◌, int_div, unsigned_abs, List, [], ◌∷◌, map, length, ap, sym, ◌∙◌, subst, refl, arith}
use Prim.Native.Nat.{◌∣◌}
use Rattle.std.specs.Int.{IsGcd, int_div_euclid}
use Rattle.std.specs.Ordering.{int_eq}
use Rattle.std.proofs.lemmas.Bool.Decides.{nat_tests, Decides-int_eq}
use Rattle.std.proofs.lemmas.Int.{ints, unsigned_abs-mul}
use Rattle.std.proofs.lemmas.Nat.Gcd.{dvd_trans, dvd_refl, dvd-zero, le_of_dvd, dvd_antisymm, IsGcd-from_zero, IsGcd-from_mod}
use Rattle.std.proofs.Math.Nat.{one-dvd, dvd-mul_right, dvd_of_mul-dvd-mul_left, mul-dvd-mul_left, mul-div_cancel', eq-one_of_dvd-one, pos_of_dvd_of_pos}
use Rattle.lucy_clauses.specs.declared.parts.Part.{Part}
use Rattle.lucy_clauses.specs.Sums.{form, scaled, negative_part}
use Rattle.lucy_clauses.specs.Parts.{is_zero, is_within, all_within, above, ascends, none_zero, gathered, stays_within}
use Rattle.lucy_clauses.specs.Normal.{DividesAll, IsCommonDivisor, IsGathered, IsNormal, IsNormalForm}
use Rattle.lucy_clauses.specs.Dividing.{divided, gcd_within, gcd, common_divisor}
use Rattle.lucy_clauses.proofs.Mapping.{two_tests, both_tests}
use Rattle.lucy_clauses.proofs.Products.{exact_quotient}
use Rattle.lucy_clauses.proofs.GatheredParts.{is_gathered}

-- g is the greatest common divisor of d and the factors
pub Reaches : ℕ → List Part → ℕ → Type 0
Reaches d ps g = (g ∣ d) × DividesAll g ps × ((h : ℕ) → h ∣ d → DividesAll h ps → h ∣ g)

-- one factor more
pub reaches_step : (d e g : ℕ) (p : Part) (ps : List Part) → IsGcd d (unsigned_abs p.by) e → Reaches e ps g → Reaches d (p ∷ ps) g
unfolding Reaches
reaches_step d e g p ps is r = (
  dvd_trans g r.0 is.0,
  (dvd_trans g r.0 is.1, r.1),
  λ h h_d h_all. r.2 h (is.2 h h_d h_all.0) h_all.1,
)

pub reaches_end : (d : ℕ) → Reaches d [] d
unfolding Reaches
reaches_end d = (dvd_refl d, tt, λ h h_d h_all. h_d)

-- 1 is the greatest common divisor of 1 and any factors
pub reaches_one : (ps : List Part) → Reaches 1 ps 1
unfolding Reaches
reaches_one ps = (dvd_refl 1, one_divides ps, λ h h_d h_all. h_d)
  where
    one_divides : (ps : List Part) → DividesAll 1 ps
    one_divides [] = tt
    one_divides (p ∷ ps) = (one-dvd (unsigned_abs p.by), one_divides ps)

pub reaches_common : (ps : List Part) (g : ℕ) → Reaches 0 ps g → IsCommonDivisor ps g
unfolding Reaches
reaches_common ps g r = record { divides = r.1; greatest = λ h h_all. r.2 h (dvd-zero h) h_all }

-- ---- Euclid's division

gcd_is_within : (n a b : ℕ) → b < n → IsGcd a b (gcd_within n a b)
gcd_is_within zero a b h = absurd (omega arith)
gcd_is_within (suc n) a zero h = IsGcd-from_zero a zero refl
gcd_is_within (suc n) a (suc b) h = IsGcd-from_mod a (suc b) (gcd_within n (suc b) (a % suc b)) (gcd_is_within n (suc b) (a % suc b) (omega arith))

pub gcd_is : (a b : ℕ) → IsGcd a b (gcd a b)
gcd_is a b = gcd_is_within (suc b) a b (omega arith)

divisor_reaches : (d : ℕ) (ps : List Part) → Reaches d ps (common_divisor d ps)
divisor_reaches d [] = reaches_end d
divisor_reaches d (p ∷ ps) = reaches_step d (gcd d (unsigned_abs p.by)) (common_divisor d (p ∷ ps)) p ps (gcd_is d (unsigned_abs p.by)) (divisor_reaches (gcd d (unsigned_abs p.by)) ps)

pub divisor_common : (ps : List Part) → IsCommonDivisor ps (common_divisor 0 ps)
divisor_common ps = reaches_common ps (common_divisor 0 ps) (divisor_reaches 0 ps)

-- there is one greatest common divisor
pub divisor_is : (ps : List Part) (g : ℕ) → IsCommonDivisor ps g → g ≡ common_divisor 0 ps
divisor_is ps g h =
    let k = divisor_common ps in
    dvd_antisymm (k.greatest g h.divides) (h.greatest (common_divisor 0 ps) k.divides)

part : ℕ → ℤ → Part
part v x = record { variable = v; by = x }

-- ---- factors that were divided

pub divided_back : (g : ℕ) (ps : List Part) → DividesAll g ps → map (scaled g) (map (divided g) ps) ≡ ps
unfolding part
divided_back g [] h = refl
divided_back g (p ∷ ps) h =
    ap (λ (x : ℤ). part p.variable x ∷ map (scaled g) (map (divided g) ps)) (exact_quotient g p.by h.0)
    ∙ ap (λ (qs : List Part). p ∷ qs) (divided_back g ps h.1)

scaled_size : (g : ℕ) (x : ℤ) → unsigned_abs (pos g *ℤ x) ≡ g * unsigned_abs x
scaled_size g x = unsigned_abs-mul (pos g) x

divides_scaled : (h g : ℕ) (ps : List Part) → DividesAll h ps → DividesAll (g * h) (map (scaled g) ps)
divides_scaled h g [] d = tt
divides_scaled h g (p ∷ ps) d =
    (subst (λ (n : ℕ). g * h ∣ n) (sym (scaled_size g p.by)) (mul-dvd-mul_left h g d.0), divides_scaled h g ps d.1)

divides_unscaled : (m l : ℕ) (qs : List Part) → 0 < l → DividesAll (l * m) (map (scaled l) qs) → DividesAll m qs
divides_unscaled m l [] some d = tt
divides_unscaled m l (q ∷ qs) some d = (
  dvd_of_mul-dvd-mul_left {k = l} m {n = unsigned_abs q.by} some (subst (λ (n : ℕ). l * m ∣ n) (scaled_size l q.by) d.0),
  divides_unscaled m l qs some d.1,
)

times_one : (g : ℕ) → g * 1 ≡ g
times_one g = omega arith

coprime_divided : (g : ℕ) (ps : List Part) → 0 < g → IsCommonDivisor ps g → (h : ℕ) → DividesAll h (map (divided g) ps) → h ≡ 1
coprime_divided g ps some common h d =
    let all = subst (DividesAll (g * h)) (divided_back g ps common.divides) (divides_scaled h g (map (divided g) ps) d) in
    eq-one_of_dvd-one (dvd_of_mul-dvd-mul_left {k = g} h {n = 1} some (subst (λ (n : ℕ). g * h ∣ n) (sym (times_one g)) (common.greatest (g * h) all)))

above-divided : (g v : ℕ) (ps : List Part) → above v (map (divided g) ps) ≡ above v ps
above-divided g v [] = refl
above-divided g v (p ∷ ps) = rw (above-divided g v ps) refl

ascends-divided : (g : ℕ) (ps : List Part) → ascends (map (divided g) ps) ≡ ascends ps
ascends-divided g [] = refl
ascends-divided g (p ∷ ps) = rw (above-divided g p.variable ps, ascends-divided g ps) refl

not_zero_fact : (x : ℤ) → not (int_eq x (pos 0)) ≡ true → x ≡ pos 0 → ⊥
not_zero_fact x h e = apart (sym h ∙ ap not ((Decides-int_eq x (pos 0)).1 e))
  where
    apart : true ≡ false → ⊥
    apart e = cc

pub not_zero_test : (x : ℤ) → (x ≡ pos 0 → ⊥) → not (int_eq x (pos 0)) ≡ true
not_zero_test x h = by_test (int_eq x (pos 0)) refl
  where
    by_test : (b : Bool) → int_eq x (pos 0) ≡ b → not b ≡ true
    by_test true e = absurd (h ((Decides-int_eq x (pos 0)).0 e))
    by_test false e = refl

nonzero_quotient : (g : ℕ) (x : ℤ) → g ∣ unsigned_abs x → (x ≡ pos 0 → ⊥) → int_div x (pos g) ≡ pos 0 → ⊥
nonzero_quotient g x d h e = h (sym (exact_quotient g x d) ∙ ap (λ (q : ℤ). pos g *ℤ q) e ∙ zero_product (pos g))
  where
    zero_product : (y : ℤ) → y *ℤ pos 0 ≡ pos 0
    zero_product y = omega (arith, ints)

none_zero-divided : (g : ℕ) (ps : List Part) → DividesAll g ps → none_zero ps ≡ true → none_zero (map (divided g) ps) ≡ true
none_zero-divided g [] d h = refl
none_zero-divided g (p ∷ ps) d h =
    let t = two_tests (not (is_zero p)) (none_zero ps) h in
    both_tests (not (is_zero (divided g p))) (none_zero (map (divided g) ps))
    (not_zero_test (int_div p.by (pos g)) (nonzero_quotient g p.by d.0 (not_zero_fact p.by t.0)))
    (none_zero-divided g ps d.1 t.1)

smaller : (g q n : ℕ) → 0 < g → n ≡ g * q → nat_le n (2 ^ 126) ≡ true → nat_le q (2 ^ 126) ≡ true
smaller zero q n some e h = absurd (omega arith)
smaller (suc g) q n some e h = grind (arith, nat_tests, grows g q)
  where
    grows : (g q : ℕ) → q ≤ suc g * q
    grows g q = omega arith

within-divided : (g : ℕ) (ps : List Part) → 0 < g → DividesAll g ps → all_within ps ≡ true → all_within (map (divided g) ps) ≡ true
within-divided g [] some d h = refl
within-divided g (p ∷ ps) some d h =
    let t = two_tests (is_within p.by) (all_within ps) h in
    let size = ap unsigned_abs (sym (exact_quotient g p.by d.0)) ∙ scaled_size g (int_div p.by (pos g)) in
    both_tests (is_within (int_div p.by (pos g))) (all_within (map (divided g) ps))
    (smaller g (unsigned_abs (int_div p.by (pos g))) (unsigned_abs p.by) some size t.0)
    (within-divided g ps some d.1 t.1)

length-divided : (g : ℕ) (ps : List Part) → length (map (divided g) ps) ≡ length ps
length-divided g [] = refl
length-divided g (p ∷ ps) = ap suc (length-divided g ps)

-- gathered parts divided by a number that divides each factor
pub gathered_divided : (g : ℕ) (ps : List Part) → 0 < g → DividesAll g ps → IsGathered ps → IsGathered (map (divided g) ps)
gathered_divided g ps some divides gathered = record {
  ascending = ascends-divided g ps ∙ gathered.ascending;
  nonzero = none_zero-divided g ps divides gathered.nonzero;
  within = within-divided g ps some divides gathered.within;
}

-- gathered parts divided by their greatest common divisor are in normal form
pub normal_divided : (g : ℕ) (ps : List Part) → 0 < length ps → 0 < g → IsGathered ps → IsCommonDivisor ps g → IsNormal (map (divided g) ps)
normal_divided g ps some positive gathered common = record {
  some = subst (λ (n : ℕ). 0 < n) (sym (length-divided g ps)) some;
  ascending = ascends-divided g ps ∙ gathered.ascending;
  nonzero = none_zero-divided g ps common.divides gathered.nonzero;
  within = within-divided g ps positive common.divides gathered.within;
  coprime = coprime_divided g ps positive common;
}

-- the greatest common divisor is above 0 and within the limit
size_test : (x : ℤ) → (x ≡ pos 0 → ⊥) → 0 < unsigned_abs x
size_test (pos zero) h = absurd (h refl)
size_test (pos (suc n)) h = omega arith
size_test (negsuc n) h = omega arith

pub common_positive : (g : ℕ) (ps : List Part) → 0 < length ps → IsGathered ps → IsCommonDivisor ps g → 0 < g
common_positive g [] some gathered common = absurd (omega arith)
common_positive g (p ∷ ps) some gathered common =
    let t = two_tests (not (is_zero p)) (none_zero ps) gathered.nonzero in
    pos_of_dvd_of_pos common.divides.0 (size_test p.by (not_zero_fact p.by t.0))

le_test : (n m : ℕ) → nat_le n m ≡ true → n ≤ m
le_test n m h = grind (arith, nat_tests)

pub common_within : (g : ℕ) (ps : List Part) → 0 < length ps → IsGathered ps → IsCommonDivisor ps g → g ≤ 2 ^ 126
common_within g [] some gathered common = absurd (omega arith)
common_within g (p ∷ ps) some gathered common =
    let t = two_tests (not (is_zero p)) (none_zero ps) gathered.nonzero in
    let w = two_tests (is_within p.by) (all_within ps) gathered.within in
    let small = le_of_dvd (size_test p.by (not_zero_fact p.by t.0)) common.divides.0 in
    let bound = le_test (unsigned_abs p.by) (2 ^ 126) w.0 in
    omega (arith, small, bound)

-- ---- factors with the other sign

neg_size : (x : ℤ) → unsigned_abs (neg_ℤ x) ≡ unsigned_abs x
neg_size (pos zero) = refl
neg_size (pos (suc n)) = refl
neg_size (negsuc n) = refl

neg_nonzero : (x : ℤ) → (x ≡ pos 0 → ⊥) → neg_ℤ x ≡ pos 0 → ⊥
neg_nonzero x h e = h (omega (arith, ints, e))

above-negative : (v : ℕ) (ps : List Part) → above v (map negative_part ps) ≡ above v ps
above-negative v [] = refl
above-negative v (p ∷ ps) = rw (above-negative v ps) refl

ascends-negative : (ps : List Part) → ascends (map negative_part ps) ≡ ascends ps
ascends-negative [] = refl
ascends-negative (p ∷ ps) = rw (above-negative p.variable ps, ascends-negative ps) refl

none_zero-negative : (ps : List Part) → none_zero ps ≡ true → none_zero (map negative_part ps) ≡ true
none_zero-negative [] h = refl
none_zero-negative (p ∷ ps) h =
    let t = two_tests (not (is_zero p)) (none_zero ps) h in
    both_tests (not (is_zero (negative_part p))) (none_zero (map negative_part ps)) (not_zero_test (neg_ℤ p.by) (neg_nonzero p.by (not_zero_fact p.by t.0))) (none_zero-negative ps t.1)

within-negative : (ps : List Part) → all_within (map negative_part ps) ≡ all_within ps
within-negative [] = refl
within-negative (p ∷ ps) = rw (neg_size p.by, within-negative ps) refl

divides-negative : (d : ℕ) (ps : List Part) → DividesAll d (map negative_part ps) → DividesAll d ps
divides-negative d [] h = tt
divides-negative d (p ∷ ps) h = (subst (λ (n : ℕ). d ∣ n) (neg_size p.by) h.0, divides-negative d ps h.1)

length-negative : (ps : List Part) → length (map negative_part ps) ≡ length ps
length-negative [] = refl
length-negative (p ∷ ps) = ap suc (length-negative ps)

pub normal_negative : (ps : List Part) → IsNormal ps → IsNormal (map negative_part ps)
normal_negative ps n = record {
  some = subst (λ (k : ℕ). 0 < k) (sym (length-negative ps)) n.some;
  ascending = ascends-negative ps ∙ n.ascending;
  nonzero = none_zero-negative ps n.nonzero;
  within = within-negative ps ∙ n.within;
  coprime = λ d h. n.coprime d (divides-negative d ps h);
}

-- ---- one normal form

gcd_exists : (n a b : ℕ) → b < n → (g : ℕ) × IsGcd a b g
gcd_exists zero a b h = absurd (omega arith)
gcd_exists (suc n) a zero h = (a, IsGcd-from_zero a zero refl)
gcd_exists (suc n) a (suc b) h =
    let r = gcd_exists n (suc b) (a % suc b) (omega arith) in
    (r.0, IsGcd-from_mod a (suc b) r.0 r.1)

reaches_exists : (d : ℕ) (ps : List Part) → (g : ℕ) × Reaches d ps g
reaches_exists d [] = (d, reaches_end d)
reaches_exists d (p ∷ ps) =
    let e = gcd_exists (suc (unsigned_abs p.by)) d (unsigned_abs p.by) (omega arith) in
    let r = reaches_exists e.0 ps in
    (r.0, reaches_step d e.0 r.0 p ps e.1 r.1)

divides_own : (l : ℕ) (qs : List Part) → DividesAll l (map (scaled l) qs)
divides_own l [] = tt
divides_own l (q ∷ qs) = (subst (λ (n : ℕ). l ∣ n) (sym (scaled_size l q.by)) (dvd-mul_right l (unsigned_abs q.by)), divides_own l qs)

-- what divides l times factors that have no common divisor divides l
scaled_greatest : (l : ℕ) (qs : List Part) → 0 < l → ((d : ℕ) → DividesAll d qs → d ≡ 1) → (k : ℕ) → DividesAll k (map (scaled l) qs) → k ∣ l
scaled_greatest l qs some coprime k h =
    let r = reaches_exists 0 (map (scaled l) qs) in
    let common = reaches_common (map (scaled l) qs) r.0 r.1 in
    let m = r.0 / l in
    let whole : l * m ≡ r.0 = mul-div_cancel' l (common.greatest l (divides_own l qs)) in
    let one_left : m ≡ 1 = coprime m (divides_unscaled m l qs some (subst (λ (n : ℕ). DividesAll n (map (scaled l) qs)) (sym whole) common.divides)) in
    let same : r.0 ≡ l = sym whole ∙ ap (λ (n : ℕ). l * n) one_left ∙ times_one l in
    subst (λ (n : ℕ). k ∣ n) same (common.greatest k h)

pub same_multiples : (k l : ℕ) (ps qs : List Part) → 0 < k → 0 < l → IsNormal ps → IsNormal qs → map (scaled k) ps ≡ map (scaled l) qs → k ≡ l
same_multiples k l ps qs k_some l_some p q e =
    dvd_antisymm
    (scaled_greatest l qs l_some q.coprime k (subst (DividesAll k) e (divides_own k ps)))
    (scaled_greatest k ps k_some p.coprime l (subst (DividesAll l) (sym e) (divides_own l qs)))

-- what normal form needs of the gathered parts
pub record Divides (ps items : List Part) (g : ℕ) : Type 0 where
  pub positive : 0 < g
  pub within : g ≤ 2 ^ 126
  pub normal : IsNormal (map (divided g) items)
  pub back : map (scaled g) (map (divided g) items) ≡ gathered ps

pub gathered_divides : (ps items lent : List Part) (g : ℕ) → stays_within [] ps ≡ true → items ≡ gathered ps → lent ≡ items → 0 < length items → IsCommonDivisor lent g → Divides ps items g
gathered_divides ps items lent g stays is lent_is some lent_common =
    let common = subst (λ (qs : List Part). IsCommonDivisor qs g) lent_is lent_common in
    let all = subst IsGathered (sym is) (is_gathered ps stays) in
    let positive = common_positive g items some all common in
    record {
      positive = positive;
      within = common_within g items some all common;
      normal = normal_divided g items some positive all common;
      back = divided_back g items common.divides ∙ is;
    }

pub normal_form : (ps items divided_items : List Part) (g : ℕ) (bound b : ℤ) → Divides ps items g → divided_items ≡ map (divided g) items → b ≡ int_div_euclid bound (pos g) → IsNormalForm ps bound (form divided_items b)
normal_form ps items divided_items g bound b d is b_is = record {
  by = g;
  positive = d.positive;
  parts_are = ap (map (scaled g)) is ∙ d.back;
  bound_is = b_is;
  normal = subst IsNormal (sym is) d.normal;
}
