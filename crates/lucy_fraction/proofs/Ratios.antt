-- Ratios as rational numbers.
use Rattle.std.proofs.Common.{◌≡◌, ◌≢◌, ℕ, zero, suc, ◌*◌, ◌<◌, ◌≤◌, ◌^◌, ℤ, pos, negsuc, ◌+ℤ◌, ◌*ℤ◌, unsigned_abs, int_lt, Bool, true, false, ap, sym, ◌∙◌, subst, refl, arith}
use Rattle.std.proofs.lemmas.Int.{ints, unsigned_abs-mul}
use Rattle.std.proofs.Math.IntN.{*ℤ_comm, zero-*ℤ, pos-*ℤ-pos}
use borrow.Author.Differences.{up, down, sum_is_lem, product_is}
use Rattle.lucy_fraction.proofs.Gcds.{same_lowest_terms}
use Rattle.std.proofs.lemmas.Bool.Decides.{nat_tests}
use Rattle.std.proofs.lemmas.Nat.Gcd.{IsGcd-swap}
use Rattle.std.specs.Int.{IsGcd}
use Rattle.lucy_fraction.specs.Rationals.{Ratio, ratio, IsSame, IsReduced, IsReducedForm, IsWithin, IsTooWide, IsLowest, sum, signed_by, inverse, inverse_by}
use Rattle.lucy_fraction.specs.Laws.{ReducedIsUnique, SumKeepsSame, ProductKeepsSame, QuotientTimesDivisor}

-- products of integers

over_sum : (a b c : ℤ) → (a +ℤ b) *ℤ c ≡ a *ℤ c +ℤ b *ℤ c
over_sum a b c =
    omega (arith, ints, ap (λ (n : ℕ). n * up c) (sum_is_lem a b), ap (λ (n : ℕ). n * down c) (sum_is_lem a b))

regroup : (a b c : ℤ) → (a *ℤ b) *ℤ c ≡ a *ℤ (b *ℤ c)
regroup a b c =
    omega (arith, ints, ap (λ (n : ℕ). n * up c) (product_is a b).0, ap (λ (n : ℕ). n * down c) (product_is a b).0, ap (λ (n : ℕ). n * up c) (product_is a b).1, ap (λ (n : ℕ). n * down c) (product_is a b).1, ap (λ (n : ℕ). up a * n) (product_is b c).0, ap (λ (n : ℕ). up a * n) (product_is b c).1, ap (λ (n : ℕ). down a * n) (product_is b c).0, ap (λ (n : ℕ). down a * n) (product_is b c).1)

swap_inner : (a b c d : ℤ) → (a *ℤ b) *ℤ (c *ℤ d) ≡ (a *ℤ c) *ℤ (b *ℤ d)
swap_inner a b c d =
    regroup a b (c *ℤ d)
    ∙ ap (λ (x : ℤ). a *ℤ x) (sym (regroup b c d) ∙ ap (λ (x : ℤ). x *ℤ d) (*ℤ_comm b c) ∙ regroup c b d)
    ∙ sym (regroup a c (b *ℤ d))

product_pos : (m n : ℕ) → pos (m * n) ≡ pos m *ℤ pos n
product_pos m n = sym (pos-*ℤ-pos m n)

-- the product of (n1 / d1) and (n2 / d2), against that of equal ratios
cross : (n1 n1' d1 d1' n2 n2' d2 d2' : ℤ) → n1 *ℤ d1' ≡ n1' *ℤ d1 → n2 *ℤ d2' ≡ n2' *ℤ d2 → (n1 *ℤ n2) *ℤ (d1' *ℤ d2') ≡ (n1' *ℤ n2') *ℤ (d1 *ℤ d2)
cross n1 n1' d1 d1' n2 n2' d2 d2' e f =
    swap_inner n1 n2 d1' d2' ∙ ap (λ (x : ℤ). x *ℤ (n2 *ℤ d2')) e ∙ ap (λ (x : ℤ). (n1' *ℤ d1) *ℤ x) f ∙ swap_inner n1' d1 n2' d2

pub product_same : ProductKeepsSame
product_same p p' q q' e f =
    ap (λ (x : ℤ). (p.top *ℤ q.top) *ℤ x) (product_pos p'.bottom q'.bottom)
    ∙ cross p.top p'.top (pos p.bottom) (pos p'.bottom) q.top q'.top (pos q.bottom) (pos q'.bottom) e f
    ∙ ap (λ (x : ℤ). (p'.top *ℤ q'.top) *ℤ x) (sym (product_pos p.bottom q.bottom))

-- one summand: n / d1 over the bottom d1 * d2
summand : (n n' d1 d1' d2 d2' : ℤ) → n *ℤ d1' ≡ n' *ℤ d1 → (n *ℤ d2) *ℤ (d1' *ℤ d2') ≡ (n' *ℤ d2') *ℤ (d1 *ℤ d2)
summand n n' d1 d1' d2 d2' e =
    swap_inner n d2 d1' d2' ∙ ap (λ (x : ℤ). x *ℤ (d2 *ℤ d2')) e ∙ ap (λ (x : ℤ). (n' *ℤ d1) *ℤ x) (*ℤ_comm d2 d2') ∙ swap_inner n' d1 d2' d2

pub sum_same : SumKeepsSame
sum_same p p' q q' e f =
    let d1 = pos p.bottom in
    let d1' = pos p'.bottom in
    let d2 = pos q.bottom in
    let d2' = pos q'.bottom in
    ap (λ (x : ℤ). (p.top *ℤ d2 +ℤ q.top *ℤ d1) *ℤ x) (product_pos p'.bottom q'.bottom)
    ∙ over_sum (p.top *ℤ d2) (q.top *ℤ d1) (d1' *ℤ d2')
    ∙ ap (λ (x : ℤ). x +ℤ (q.top *ℤ d1) *ℤ (d1' *ℤ d2')) (summand p.top p'.top d1 d1' d2 d2' e)
    ∙ ap (λ (x : ℤ). (p'.top *ℤ d2') *ℤ (d1 *ℤ d2) +ℤ x) (ap (λ (x : ℤ). (q.top *ℤ d1) *ℤ x) (*ℤ_comm d1' d2') ∙ summand q.top q'.top d2 d2' d1 d1' f ∙ ap (λ (x : ℤ). (q'.top *ℤ d1') *ℤ x) (*ℤ_comm d2 d1))
    ∙ sym (over_sum (p'.top *ℤ d2') (q'.top *ℤ d1') (d1 *ℤ d2))
    ∙ ap (λ (x : ℤ). (p'.top *ℤ d2' +ℤ q'.top *ℤ d1') *ℤ x) (sym (product_pos p.bottom q.bottom))

inverse_times : (n : ℤ) (d : ℕ) → (inverse_by n d).top *ℤ n ≡ pos ((inverse_by n d).bottom * d)
inverse_times (pos n) d = omega (arith, ints)
inverse_times (negsuc n) zero = omega (arith, ints)
inverse_times (negsuc n) (suc d) = omega (arith, ints)

pub quotient_times : QuotientTimesDivisor
quotient_times p q some =
    let i = inverse q in
    ap (λ (x : ℤ). x *ℤ pos p.bottom) (regroup p.top i.top q.top ∙ ap (λ (x : ℤ). p.top *ℤ x) (inverse_times q.top q.bottom))
    ∙ regroup p.top (pos (i.bottom * q.bottom)) (pos p.bottom)
    ∙ ap (λ (x : ℤ). p.top *ℤ x) (sym (product_pos (i.bottom * q.bottom) p.bottom) ∙ ap (λ (m : ℕ). pos m) (turned p.bottom i.bottom q.bottom))
  where
    turned : (a b c : ℕ) → (b * c) * a ≡ (a * b) * c
    turned a b c = grind arith

-- a sum with 0 is the other summand

pub zero_added : (p q : Ratio) → q.top ≡ pos 0 → IsReduced p → IsWithin p → IsReducedForm p (sum p q) × IsWithin p
zero_added p q none reduced within = (
  record {
    reduced = reduced;
    same =
        ap (λ (x : ℤ). p.top *ℤ x) (product_pos p.bottom q.bottom)
        ∙ ap (λ (x : ℤ). p.top *ℤ x) (*ℤ_comm (pos p.bottom) (pos q.bottom))
        ∙ sym (regroup p.top (pos q.bottom) (pos p.bottom))
        ∙ ap (λ (x : ℤ). x *ℤ pos p.bottom) (sym (more p.top q.top (pos q.bottom) (pos p.bottom) none));
  },
  within,
)
  where
    more : (a b c d : ℤ) → b ≡ pos 0 → a *ℤ c +ℤ b *ℤ d ≡ a *ℤ c
    more a b c d e = rw e (omega (arith, ints, zero-*ℤ d))

pub added_to_zero : (p q : Ratio) → p.top ≡ pos 0 → IsReduced q → IsWithin q → IsReducedForm q (sum p q) × IsWithin q
added_to_zero p q none reduced within = (
  record {
    reduced = reduced;
    same =
        ap (λ (x : ℤ). q.top *ℤ x) (product_pos p.bottom q.bottom)
        ∙ sym (regroup q.top (pos p.bottom) (pos q.bottom))
        ∙ ap (λ (x : ℤ). x *ℤ pos q.bottom) (sym (more p.top q.top (pos q.bottom) (pos p.bottom) none));
  },
  within,
)
  where
    more : (a b c d : ℤ) → a ≡ pos 0 → a *ℤ c +ℤ b *ℤ d ≡ b *ℤ d
    more a b c d e = rw e (omega (arith, ints, zero-*ℤ c))

-- the reduced form

same_sign : (x y : ℤ) (d : ℕ) → 0 < d → unsigned_abs x ≡ unsigned_abs y → x *ℤ pos d ≡ y *ℤ pos d → x ≡ y
same_sign (pos m) (pos n) d some size e = ap (λ (k : ℕ). pos k) size
same_sign (pos m) (negsuc n) d some size e = absurd (omega (arith, ints, some_product (suc n) d, e))
  where
    some_product : (a b : ℕ) → 0 < a → 0 < b → 0 < a * b
    some_product a b p q = grind arith
same_sign (negsuc m) (pos n) d some size e = absurd (omega (arith, ints, some_product (suc m) d, e))
  where
    some_product : (a b : ℕ) → 0 < a → 0 < b → 0 < a * b
    some_product a b p q = grind arith
same_sign (negsuc m) (negsuc n) d some size e = ap (λ (k : ℕ). negsuc k) (omega (arith, size))

pub reduced_unique : ReducedIsUnique
reduced_unique p q r s e =
    let sizes : unsigned_abs p.top * q.bottom ≡ unsigned_abs q.top * p.bottom = sym (unsigned_abs-mul p.top (pos q.bottom)) ∙ ap unsigned_abs e ∙ unsigned_abs-mul q.top (pos p.bottom) in
    let t = same_lowest_terms (unsigned_abs p.top) p.bottom (unsigned_abs q.top) q.bottom r.positive s.positive r.coprime s.coprime sizes in
    (same_sign p.top q.top q.bottom s.positive t.0 (e ∙ ap (λ (n : ℕ). q.top *ℤ pos n) t.1), t.1)

-- dividing a ratio by a common divisor gives the same rational number
pub divided_same : (x : ℤ) (top : ℤ) (bottom s d g : ℕ) → x *ℤ pos g ≡ top → bottom ≡ g * d → x *ℤ pos bottom ≡ top *ℤ pos d
divided_same x top bottom s d g e f =
    ap (λ (n : ℕ). x *ℤ pos n) f ∙ ap (λ (y : ℤ). x *ℤ y) (product_pos g d) ∙ sym (regroup x (pos g) (pos d)) ∙ ap (λ (y : ℤ). y *ℤ pos d) e

-- what is kept of a fraction depends on the size of its top alone
pub sized_fraction : (n m : ℤ) (d : ℕ) → unsigned_abs m ≡ unsigned_abs n → IsReduced (ratio n d) × IsWithin (ratio n d) → IsReduced (ratio m d) × IsWithin (ratio m d)
sized_fraction n m d size h = (
  record { positive = h.0.positive; coprime = subst (λ (k : ℕ). IsGcd k d 1) (sym size) h.0.coprime },
  record { top = subst (λ (k : ℕ). k ≤ 2 ^ 62) (sym size) h.1.top; bottom = h.1.bottom },
)

-- a fraction turned over
pub turned_fraction : (n m : ℤ) (d : ℕ) → unsigned_abs m ≡ d → 0 < unsigned_abs n → IsReduced (ratio n d) × IsWithin (ratio n d) → IsReduced (ratio m (unsigned_abs n)) × IsWithin (ratio m (unsigned_abs n))
turned_fraction n m d size some h = (
  record { positive = some; coprime = subst (λ (k : ℕ). IsGcd k (unsigned_abs n) 1) (sym size) (IsGcd-swap (unsigned_abs n) d 1 h.0.coprime) },
  record { top = subst (λ (k : ℕ). k ≤ 2 ^ 62) (sym size) h.1.bottom; bottom = h.1.top },
)

signed_product : (b : Bool) (top : ℤ) (g s : ℕ) → b ≡ int_lt top (pos 0) → unsigned_abs top ≡ g * s → signed_by b s *ℤ pos g ≡ top
signed_product true (pos n) g s sign size = absurd (grind (arith, nat_tests))
signed_product false (pos n) g s sign size = omega (arith, ints, size)
signed_product true (negsuc n) g zero sign size = absurd (omega (arith, size))
signed_product true (negsuc n) g (suc s) sign size = omega (arith, ints, size)
signed_product false (negsuc n) g s sign size = absurd (cc)

lowest_same : (b : Bool) (top : ℤ) (bottom s d : ℕ) → b ≡ int_lt top (pos 0) → IsLowest (unsigned_abs top) bottom s d → IsSame (ratio (signed_by b s) d) (ratio top bottom)
lowest_same b top bottom s d sign l =
    divided_same (signed_by b s) top bottom s d l.common (signed_product b top l.common s sign l.size_is) l.bottom_is

pub signed_size : (b : Bool) (s : ℕ) → unsigned_abs (signed_by b s) ≡ s
signed_size true zero = refl
signed_size true (suc s) = refl
signed_size false s = refl

pub lowest_reduced : (b : Bool) (size bottom s d : ℕ) → 0 < bottom → IsLowest size bottom s d → IsReduced (ratio (signed_by b s) d)
lowest_reduced b size bottom s d some l = record {
  positive = above_zero l.common d (subst (λ (n : ℕ). 0 < n) l.bottom_is some);
  coprime = subst (λ (n : ℕ). IsGcd n d 1) (sym (signed_size b s)) l.coprime;
}
  where
    above_zero : (g d : ℕ) → 0 < g * d → 0 < d
    above_zero g zero h = absurd (omega arith)
    above_zero g (suc d) h = omega arith

-- the lowest terms are the reduced form
lowest_form : (b : Bool) (top : ℤ) (bottom s d : ℕ) → 0 < bottom → b ≡ int_lt top (pos 0) → IsLowest (unsigned_abs top) bottom s d → IsReducedForm (ratio (signed_by b s) d) (ratio top bottom)
lowest_form b top bottom s d some sign l = record {
  reduced = lowest_reduced b (unsigned_abs top) bottom s d some l;
  same = lowest_same b top bottom s d sign l;
}

-- the lowest terms are within the limit
pub fitting : (b within : Bool) (f : Ratio) (top : ℤ) (bottom s d : ℕ) → 0 < bottom → b ≡ int_lt top (pos 0) → IsLowest (unsigned_abs top) bottom s d → within ≡ true → (within ≡ true → (s ≤ 2 ^ 62) × (d ≤ 2 ^ 62)) → f ≡ ratio (signed_by b s) d → IsReducedForm f (ratio top bottom) × IsWithin f
fitting b within f top bottom s d some sign l fit fits is =
    let small = fits fit in
    subst (λ (g : Ratio). IsReducedForm g (ratio top bottom) × IsWithin g) (sym is) (
      lowest_form b top bottom s d some sign l,
      record { top = subst (λ (n : ℕ). n ≤ 2 ^ 62) (sym (signed_size b s)) small.0; bottom = small.1 },
    )

-- the lowest terms are past the limit
pub too_wide : (b within : Bool) (top : ℤ) (bottom s d : ℕ) → 0 < bottom → b ≡ int_lt top (pos 0) → IsLowest (unsigned_abs top) bottom s d → within ≡ false → ((s ≤ 2 ^ 62) × (d ≤ 2 ^ 62) → within ≡ true) → IsTooWide (ratio top bottom)
too_wide b within top bottom s d some sign l no_fit fits = record {
  form = ratio (signed_by b s) d;
  form_is = lowest_form b top bottom s d some sign l;
  wide = λ w. apart (sym no_fit ∙ fits (subst (λ (n : ℕ). n ≤ 2 ^ 62) (signed_size b s) w.top, w.bottom));
}
  where
    apart : false ≡ true → ⊥
    apart e = cc

pub size_above_zero : (x : ℤ) → x ≢ pos 0 → 0 < unsigned_abs x
size_above_zero (pos zero) h = absurd (h refl)
size_above_zero (pos (suc n)) h = omega arith
size_above_zero (negsuc n) h = omega arith
