-- Quotients of lines are those of equations.
use Rattle.std.proofs.Common.{◌≡◌, ◌≢◌, ℕ, suc, ◌<◌, ℤ, pos, negsuc, neg_ℤ, ◌≤ℤ◌, ◌<ℤ◌, List, length, get_or, refl, arith}
use Rattle.std.proofs.lemmas.Int.{ints}
use Rattle.lucy_clauses.specs.Sums.{number_at}
use Rattle.lucy_fraction.specs.Rationals.{Ratio, ratio, opposite, quotient, IsReducedForm, IsTooWide}
use Rattle.lucy_simplex.specs.Widths.{IsQuotientTooWide, HasQuotientTooWide}
use Rattle.lucy_simplex.specs.Tableaus.{Equation, constant}
use Rattle.lucy_simplex.specs.Steps.{IsDivided, IsOver}
use Rattle.lucy_simplex.specs.declared.lines.Line.{Line}
use Rattle.lucy_simplex.specs.Reading.{Reads, AreRead}
use Rattle.lucy_simplex.specs.Choices.{fall, own_below, IsQuotient}
use Rattle.lucy_simplex.proofs.Over.{quotient_cross, divided_cross, wide_same}
use Rattle.lucy_simplex.proofs.Sweeping.{there_in}
use Rattle.lucy_simplex.proofs.Orders.{sign_is_read_lem}
use Rattle.lucy_simplex.proofs.ReadLines.{number_over}

quotient_over : (d : ℕ) (x y : ℤ) (f p r : Ratio) → 0 < d → x <ℤ pos 0 → IsOver d f x → IsOver d p y → IsDivided (opposite f) r p → (by : ℕ) × (0 < by) × (neg_ℤ x ≡ pos by) × IsOver by r y
quotient_over d (pos n) y f p r some below hf hp h = absurd (omega (arith, ints))
quotient_over d (negsuc n) y f p r some below hf hp h =
    let nonzero : negsuc n ≢ pos 0 = λ e. (omega (arith, ints, e)) in
    (suc n, omega arith, refl, record { positive = h.reduced.positive; same = divided_cross d (negsuc n) y f p r some nonzero hf hp h })

pub read_quotient : (e : ℕ) (q : Equation) (l : Line) (f p r : Ratio) → e < length l.numbers.items → get_or l.numbers.items e f ≡ f → get_or l.numbers.items 0 p ≡ p → f.top <ℤ pos 0 → IsReducedForm r (quotient p (opposite f)) → Reads q l → IsQuotient (fall e) q r
read_quotient e q l f p r below is is0 falls form h =
    let over = number_over q.below e l.numbers.items q.numbers f h.numbers_are below is in
    let over0 = number_over q.below 0 l.numbers.items q.numbers p h.numbers_are (omega (arith, below)) is0 in
    let x = number_at q.numbers e in
    let o = quotient_over q.below x (constant q) f p r h.positive ((sign_is_read_lem q.below f x h.positive over).0 falls) over over0 form in
    record { by = o.0; positive = o.1; weighs = o.2; over = o.3 }

-- a fraction that is not below 0 is of a number that is not
pub read_not_below : (e : ℕ) (q : Equation) (l : Line) (f : Ratio) → e < length l.numbers.items → get_or l.numbers.items e f ≡ f → (f.top <ℤ pos 0 → ⊥) → Reads q l → pos 0 ≤ℤ number_at q.numbers e
read_not_below e q l f below is stays h =
    let over = number_over q.below e l.numbers.items q.numbers f h.numbers_are below is in
    let x = number_at q.numbers e in
    by_sign x (λ k. stays ((sign_is_read_lem q.below f x h.positive over).1 k))
  where
    by_sign : (x : ℤ) → (x <ℤ pos 0 → ⊥) → pos 0 ≤ℤ x
    by_sign (pos n) k = omega (arith, ints)
    by_sign (negsuc n) k = absurd (k (omega (arith, ints)))

pub read_below : (e : ℕ) (q : Equation) (l : Line) (f : Ratio) → e < length l.numbers.items → get_or l.numbers.items e f ≡ f → f.top <ℤ pos 0 → Reads q l → number_at q.numbers e <ℤ pos 0
read_below e q l f below is falls h =
    let over = number_over q.below e l.numbers.items q.numbers f h.numbers_are below is in
    (sign_is_read_lem q.below f (number_at q.numbers e) h.positive over).0 falls

pub read_no_quotient : (e : ℕ) (q : Equation) (l : Line) (f : Ratio) → e < length l.numbers.items → get_or l.numbers.items e f ≡ f → (f.top <ℤ pos 0 → ⊥) → Reads q l → fall e q ≤ℤ pos 0
read_no_quotient e q l f below is stays h = turned (number_at q.numbers e) (read_not_below e q l f below is stays h)
  where
    turned : (x : ℤ) → pos 0 ≤ℤ x → neg_ℤ x ≤ℤ pos 0
    turned x h = omega (arith, ints, h)

-- a constant is its own quotient by the denominator
pub read_constant : (q : Equation) (l : Line) (p : Ratio) → 0 < length l.numbers.items → get_or l.numbers.items 0 p ≡ p → Reads q l → IsQuotient own_below q p
read_constant q l p below is h = record { by = q.below; positive = h.positive; weighs = refl; over = number_over q.below 0 l.numbers.items q.numbers p h.numbers_are below is }

pub read_wide_quotient : (e : ℕ) (q : Equation) (l : Line) (f p : Ratio) → e < length l.numbers.items → get_or l.numbers.items e f ≡ f → get_or l.numbers.items 0 p ≡ p → f.top <ℤ pos 0 → IsTooWide (quotient p (opposite f)) → Reads q l → IsQuotientTooWide e q
read_wide_quotient e q l f p below is is0 falls wide h =
    let over = number_over q.below e l.numbers.items q.numbers f h.numbers_are below is in
    let over0 = number_over q.below 0 l.numbers.items q.numbers p h.numbers_are (omega (arith, below)) is0 in
    let x = number_at q.numbers e in
    let o = quotient_wide q.below x (constant q) f p ((sign_is_read_lem q.below f x h.positive over).0 falls) over over0 wide in
    record { by = o.0; positive = o.1; weighs = o.2; wide = o.3 }
  where
    quotient_wide : (d : ℕ) (x y : ℤ) (f p : Ratio) → x <ℤ pos 0 → IsOver d f x → IsOver d p y → IsTooWide (quotient p (opposite f)) → (by : ℕ) × (0 < by) × (neg_ℤ x ≡ pos by) × IsTooWide (ratio y by)
    quotient_wide d (pos n) y f p below hf hp h = absurd (omega (arith, ints))
    quotient_wide d (negsuc n) y f p below hf hp h =
        let nonzero : negsuc n ≢ pos 0 = λ e. (omega (arith, ints, e)) in
        let c = quotient_cross d (negsuc n) y f p nonzero hf hp in
        (suc n, omega arith, refl, wide_same (quotient p (opposite f)) (ratio y (suc n)) c.0 c.1 h)

-- a line of many
pub quotients_too_wide : (e : ℕ) (qs : List Equation) (ls : List Line) (i : ℕ) (line : Line) → AreRead qs ls → i < length ls → get_or ls i line ≡ line → ((q : Equation) → Reads q line → IsQuotientTooWide e q) → HasQuotientTooWide e qs i
quotients_too_wide e qs ls i line h below is wide =
    let t = there_in qs ls i line h below is in
    record { equation = t.q; there = t.there; wide = wide t.q t.reads }
