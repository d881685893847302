-- The least quotient, the least basic variable among equals.
use Rattle.std.proofs.Common.{◌≡◌, ◌⊎◌, inl, inr, ℕ, zero, suc, ◌+◌, ◌<◌, ◌≤◌, nat_lt, Bool, true, false, cond, if◌then◌else◌, int_lt, ℤ, pos, negsuc, ◌*ℤ◌, ◌≤ℤ◌, ◌<ℤ◌, List, length, get_or, slice_get, Option, Some, None, ap, sym, ◌∙◌, refl, subst, arith}
use Rattle.std.proofs.lemmas.Int.{ints}
use Rattle.std.proofs.lemmas.Bool.Decides.{nat_tests}
use Rattle.std.specs.Ordering.{int_cmp}
use Rattle.std.specs.declared.cmp.Ordering.TheVariants.{Less, Equal, Greater}
use Rattle.lucy_fraction.specs.Rationals.{Ratio}
use Rattle.lucy_simplex.specs.Tableaus.{Equation, constant}
use Rattle.lucy_simplex.specs.declared.lines.Line.{Line}
use Rattle.lucy_simplex.specs.declared.quotients.Best.{Best}
use Rattle.lucy_simplex.specs.Reading.{Reads, AreRead}
use Rattle.lucy_simplex.specs.Choices.{IsQuotient, QuotientOf, ComesFirst, IsBest, is_earlier, best_of}
use Rattle.lucy_simplex.proofs.Orders.{le_times, le_cancel, swap_right, order_is_read_lem}
use Rattle.lucy_simplex.proofs.Sweeping.{there_in}

-- what the test says of two numbers and of the basic variables at them
record Earlier (x y : ℤ) (a b : ℕ) (test : Bool) : Type 0 where
  first : test ≡ true → x ≤ℤ y
  among_first : test ≡ true → x ≡ y → a ≤ b
  last : test ≡ false → y ≤ℤ x
  among_last : test ≡ false → y ≡ x → b ≤ a

earlier_tests : (x y : ℤ) (a b : ℕ) → Earlier x y a b (is_earlier (int_cmp x y) a b)
earlier_tests x y a b = by_tests (int_lt x y) (int_lt y x) refl refl
  where
    less : (s t : ℤ) → int_lt s t ≡ true → s <ℤ t
    less s t h = grind (arith, ints, h)

    more : (s t : ℤ) → int_lt s t ≡ false → t ≤ℤ s
    more s t h = grind (arith, ints, h)

    below : (m n : ℕ) → nat_lt m n ≡ true → m ≤ n
    below m n h = grind (arith, nat_tests)

    not_below : (m n : ℕ) → nat_lt m n ≡ false → n ≤ m
    not_below m n h = grind (arith, nat_tests)

    not_same : (s t : ℤ) → s <ℤ t → s ≡ t → ⊥
    not_same s t h e = omega (arith, ints, h, e)

    by_tests : (p q : Bool) → int_lt x y ≡ p → int_lt y x ≡ q → Earlier x y a b (is_earlier (cond p Less (cond q Greater Equal)) a b)
    by_tests true q e f = record {
      first = λ h. (let k = less x y e in omega (arith, ints, k));
      among_first = λ h k. absurd (not_same x y (less x y e) k);
      last = λ h. absurd (cc);
      among_last = λ h k. absurd (cc);
    }
    by_tests false true e f = record {
      first = λ h. absurd (cc);
      among_first = λ h k. absurd (cc);
      last = λ h. more x y e;
      among_last = λ h k. absurd (not_same y x (less y x f) k);
    }
    by_tests false false e f = record {
      first = λ h. more y x f;
      among_first = λ h k. below a b h;
      last = λ h. more x y e;
      among_last = λ h k. not_below a b h;
    }

-- the order of cross products
chained : (a b c x y z : ℤ) → pos 0 <ℤ x → pos 0 <ℤ y → pos 0 <ℤ z → (a *ℤ y) ≤ℤ (b *ℤ x) → (b *ℤ z) ≤ℤ (c *ℤ y) → (a *ℤ z) ≤ℤ (c *ℤ x)
chained a b c (negsuc l) y z hx hy hz h k = absurd (omega (arith, ints))
chained a b c (pos l) (negsuc m) z hx hy hz h k = absurd (omega (arith, ints))
chained a b c (pos l) (pos m) (negsuc n) hx hy hz h k = absurd (omega (arith, ints))
chained a b c (pos l) (pos m) (pos n) hx hy hz h k =
    let some : 0 < m = omega (arith, ints, hy) in
    le_cancel m (a *ℤ pos n) (c *ℤ pos l) some
    (omega (
      arith,
      ints,
      le_times n (a *ℤ pos m) (b *ℤ pos l) h,
      le_times l (b *ℤ pos n) (c *ℤ pos m) k,
      swap_right a (pos m) (pos n),
      swap_right b (pos l) (pos n),
      swap_right c (pos m) (pos l),
    ))

both_ways : (x y : ℤ) → x ≤ℤ y → y ≤ℤ x → x ≡ y
both_ways x y h k = omega (arith, ints, h, k)

at_most : (x y : ℤ) → x ≡ y → x ≤ℤ y
at_most x y e = omega (arith, ints, e)

pub first_trans : (w : Equation → ℤ) (q r p : Equation) → pos 0 <ℤ w q → pos 0 <ℤ w r → pos 0 <ℤ w p → ComesFirst w q r → ComesFirst w r p → ComesFirst w q p
first_trans w q r p hq hr hp h k =
    let a = constant q in
    let b = constant r in
    let c = constant p in
    record {
      least = chained a b c (w q) (w r) (w p) hq hr hp h.least k.least;
      among_equals = λ e.
          (let back = at_most (c *ℤ w q) (a *ℤ w p) (sym e) in
          let one = both_ways (a *ℤ w r) (b *ℤ w q) h.least (chained b c a (w r) (w p) (w q) hr hp hq k.least back) in
          let two = both_ways (b *ℤ w p) (c *ℤ w r) k.least (chained c a b (w p) (w q) (w r) hp hq hr back h.least) in
          let s = h.among_equals one in
          let t = k.among_equals two in
          omega (arith, s, t));
    }

pub first_self : (w : Equation → ℤ) (q : Equation) → ComesFirst w q q
first_self w q = record { least = omega (arith, ints); among_equals = λ e. (omega arith) }

-- what fractions say of the order of quotients
first_read : (w : Equation → ℤ) (q r : Equation) (p b : Ratio) → IsQuotient w q p → IsQuotient w r b → (p.top *ℤ pos b.bottom) ≤ℤ (b.top *ℤ pos p.bottom)
    → (p.top *ℤ pos b.bottom ≡ b.top *ℤ pos p.bottom → q.basic ≤ r.basic) → ComesFirst w q r
first_read w q r p b h k le ties =
    let to = order_is_read_lem h.by k.by p b (constant q) (constant r) h.positive k.positive h.over k.over in
    let from = order_is_read_lem k.by h.by b p (constant r) (constant q) k.positive h.positive k.over h.over in
    let left = ap (λ (x : ℤ). constant q *ℤ x) k.weighs in
    let right = ap (λ (x : ℤ). constant r *ℤ x) h.weighs in
    record {
      least = (let step = to.0 le in omega (arith, ints, step, left, right));
      among_equals = λ e.
          (let same : constant q *ℤ pos k.by ≡ constant r *ℤ pos h.by = sym left ∙ e ∙ right in
          ties (both_ways (p.top *ℤ pos b.bottom) (b.top *ℤ pos p.bottom) le (from.1 (at_most (constant r *ℤ pos h.by) (constant q *ℤ pos k.by) (sym same)))));
    }

pub weight_above : (w : Equation → ℤ) (q : Equation) (p : Ratio) → IsQuotient w q p → pos 0 <ℤ w q
weight_above w q p h = above (w q) h.by h.positive h.weighs
  where
    above : (x : ℤ) (d : ℕ) → 0 < d → x ≡ pos d → pos 0 <ℤ x
    above x d some e = omega (arith, ints, some, e)

-- a place below i + 1 is i or below it
same_there : (qs : List Equation) (i k : ℕ) (q p : Equation) → k ≡ i → slice_get qs i ≡ Some q → slice_get qs k ≡ Some p → p ≡ q
same_there qs i k q p e h g =
    let both : Some p ≡ Some q = sym g ∙ ap (λ (n : ℕ). slice_get qs n) e ∙ h in
    cc

pub last_or_before : (i k : ℕ) → k < i + 1 → (k < i) ⊎ (k ≡ i)
last_or_before zero zero h = inr refl
last_or_before zero (suc k) h = absurd (omega (arith, h))
last_or_before (suc i) zero h = inl (omega arith)
last_or_before (suc i) (suc k) h = further (last_or_before i k (omega (arith, h)))
  where
    further : (k < i) ⊎ (k ≡ i) → (suc k < suc i) ⊎ (suc k ≡ suc i)
    further (inl a) = inl (omega (arith, a))
    further (inr b) = inr (ap suc b)

not_above : (x : ℤ) → pos 0 <ℤ x → x ≤ℤ pos 0 → ⊥
not_above x h k = omega (arith, ints, h, k)

-- one more equation, which stands at the place i
module _ (w : Equation → ℤ) (qs : List Equation) (i : ℕ) (here : Equation) (there : slice_get qs i ≡ Some here) where
  Best_at : Equation → ℕ → Type 0
  Best_at q n = (k : ℕ) (p : Equation) → k < n → slice_get qs k ≡ Some p → pos 0 <ℤ w p → ComesFirst w q p

  none_more : ((k : ℕ) (p : Equation) → k < i → slice_get qs k ≡ Some p → w p ≤ℤ pos 0) → w here ≤ℤ pos 0 → (k : ℕ) (p : Equation) → k < i + 1 → slice_get qs k ≡ Some p → w p ≤ℤ pos 0
  none_more all last k p small at = by_place (last_or_before i k small)
    where
      by_place : (k < i) ⊎ (k ≡ i) → w p ≤ℤ pos 0
      by_place (inl a) = all k p a at
      by_place (inr b) = subst (λ (x : Equation). w x ≤ℤ pos 0) (sym (same_there qs i k here p b there at)) last

  -- the best stays, and comes before the new one where that has a weight
  old_stays : (q : Equation) → Best_at q i → (pos 0 <ℤ w here → ComesFirst w q here) → Best_at q (i + 1)
  unfolding Best_at
  old_stays q all last = λ k p small at falls. by_place k p at falls (last_or_before i k small)
    where
      by_place : (k : ℕ) (p : Equation) → slice_get qs k ≡ Some p → pos 0 <ℤ w p → (k < i) ⊎ (k ≡ i) → ComesFirst w q p
      by_place k p at falls (inl a) = all k p a at falls
      by_place k p at falls (inr b) =
          let same = same_there qs i k here p b there at in
          subst (λ (x : Equation). ComesFirst w q x) (sym same) (last (subst (λ (x : Equation). pos 0 <ℤ w x) same falls))

  -- the new one is the best
  new_first : ((k : ℕ) (p : Equation) → k < i → slice_get qs k ≡ Some p → pos 0 <ℤ w p → ComesFirst w here p) → Best_at here (i + 1)
  unfolding Best_at
  new_first all = old_stays here all (λ h. first_self w here)

  step : (basic : ℕ) (old : Option Best) (next : Option Ratio) → basic ≡ here.basic → IsBest w qs i old → QuotientOf w here next → IsBest w qs (i + 1) (best_of old i basic next)
  unfolding Best_at
  step basic None None is best g = none_more best g
  step basic (Some b) None is best g = (best.0, best.1, best.2, best.3, old_stays best.0 best.4 (λ h. absurd (not_above (w here) h g)))
  step basic None (Some r) is best g = (here, there, is, g, new_first (λ k p a at falls. absurd (not_above (w p) falls (best k p a at))))
  step basic (Some b) (Some r) is best g =
      by_test (is_earlier (int_cmp (r.top *ℤ pos b.quotient.bottom) (b.quotient.top *ℤ pos r.bottom)) basic b.basic) (earlier_tests (r.top *ℤ pos b.quotient.bottom) (b.quotient.top *ℤ pos r.bottom) basic b.basic)
    where
      by_test : (c : Bool) → Earlier (r.top *ℤ pos b.quotient.bottom) (b.quotient.top *ℤ pos r.bottom) basic b.basic c → IsBest w qs (i + 1) (if c then Some (record { place = i; basic = basic; quotient = r }) else Some b)
      by_test true t =
          let first : ComesFirst w here best.0 =
          first_read w here best.0 r b.quotient g best.3 (t.first refl) (λ e. (let k = t.among_first refl e in omega (arith, k, is, best.2))) in
          (here, there, is, g, new_first (λ k p a at falls. first_trans w here best.0 p (weight_above w here r g) (weight_above w best.0 b.quotient best.3) falls first (best.4 k p a at falls)))
      by_test false t =
          let last : ComesFirst w best.0 here =
          first_read w best.0 here b.quotient r best.3 g (t.last refl) (λ e. (let k = t.among_last refl e in omega (arith, k, is, best.2))) in
          (best.0, best.1, best.2, best.3, old_stays best.0 best.4 (λ h. last))

pub best_step : (w : Equation → ℤ) (qs : List Equation) (ls : List Line) (i : ℕ) (line : Line) (old : Option Best) (next : Option Ratio) → AreRead qs ls → i < length ls → get_or ls i line ≡ line → IsBest w qs i old
    → ((q : Equation) → Reads q line → QuotientOf w q next) → IsBest w qs (i + 1) (best_of old i line.basic next)
best_step w qs ls i line old next h below is best gives =
    let t = there_in qs ls i line h below is in
    step w qs i t.q t.there line.basic old next t.reads.basic_is best (gives t.q t.reads)
