-- The point of lines, line by line.
use Rattle.std.proofs.Common.{◌≡◌, ◌⊎◌, inl, inr, ℕ, zero, suc, ◌+◌, ◌-◌, ◌*◌, ◌<◌, ◌≤◌, ◌^◌, nat_lt, nat_le, Bool, true, false, if◌then◌else◌, ℤ, pos, ◌+ℤ◌, ◌*ℤ◌, unsigned_abs, List, [], ◌∷◌, length, map, drop, get_or, set, ap, sym, ◌∙◌, refl, subst, arith}
use Rattle.std.proofs.lemmas.Int.{ints}
use Rattle.std.proofs.lemmas.Bool.Decides.{nat_tests}
use Rattle.std.proofs.Math.Nat.{one-dvd}
use Rattle.std.proofs.Math.IntN.{*ℤ_comm, pos-*ℤ-pos}
use Rattle.lucy_clauses.proofs.Products.{over_sum, regroup}
use Rattle.lucy_clauses.proofs.Mapping.{drop-at, two_tests}
use Rattle.lucy_clauses.specs.declared.formulas.Range.{Range}
use Rattle.lucy_clauses.specs.Sums.{number_at}
use Rattle.lucy_fraction.specs.Rationals.{Ratio, ratio, IsReducedForm, IsTooWide, sum}
use Rattle.lucy_fraction.proofs.Ratios.{reduced_unique, sum_same}
use Rattle.lucy_simplex.specs.declared.lines.Line.{Line}
use Rattle.lucy_simplex.specs.Systems.{lows_of, AreOver}
use Rattle.lucy_simplex.specs.Tableaus.{Equation, equation, constant}
use Rattle.lucy_simplex.specs.Steps.{IsOver, AreNumbers}
use Rattle.lucy_simplex.specs.Reading.{AreRead}
use Rattle.lucy_simplex.specs.First.{bumped}
use Rattle.lucy_simplex.specs.Points.{AreShares, moved, moved_all, Moves}
use Rattle.lucy_simplex.specs.Conditions.{is_small_range}
use Rattle.lucy_simplex.proofs.Over.{same_trans, cancel, swap_right}
use Rattle.lucy_simplex.proofs.ReadLines.{number_over, numbers_length}
use Rattle.lucy_simplex.proofs.Sweeping.{read_at, length_read}
use Rattle.lucy_simplex.proofs.FirstLines.{bumped_past}

some_product : (a b : ℕ) → 0 < a → 0 < b → 0 < a * b
some_product a b p q = grind arith

-- a small whole number is not too wide
pub small_not_wide : (b : Range) → is_small_range b ≡ true → IsTooWide (ratio b.lo 1) → ⊥
small_not_wide b h w =
    let t = two_tests _ _ h in
    let u = two_tests (nat_le (unsigned_abs b.lo) (2 ^ 62)) (nat_le (unsigned_abs b.hi) (2 ^ 62)) t.1 in
    let small : unsigned_abs b.lo ≤ 2 ^ 62 = le_test (unsigned_abs b.lo) (2 ^ 62) u.0 in
    let same = reduced_unique w.form (ratio b.lo 1) w.form_is.reduced (record { positive = omega arith; coprime = (one-dvd (unsigned_abs b.lo), one-dvd 1, λ e p q. q) }) w.form_is.same in
    w.wide (record { top = subst (λ (x : ℤ). unsigned_abs x ≤ 2 ^ 62) (sym same.0) small; bottom = subst (λ (k : ℕ). k ≤ 2 ^ 62) (sym same.1) (omega arith) })
  where
    le_test : (n m : ℕ) → nat_le n m ≡ true → n ≤ m
    le_test n m e = grind (arith, nat_tests)

pub low_there : (bounds : List Range) (i : ℕ) (d : Range) → i < length bounds → number_at (lows_of bounds) i ≡ (get_or bounds i d).lo
low_there [] i d h = absurd (omega (arith, h))
low_there (b ∷ bs) zero d h = refl
low_there (b ∷ bs) (suc i) d h = low_there bs i d (omega (arith, h))

-- ---- over one denominator

-- a constant over its equation's denominator, as a share of w
share_over : (d w : ℕ) (c y : ℤ) (p : Ratio) → 0 < d → IsOver d p c → pos d *ℤ y ≡ c *ℤ pos w → IsOver w p y
share_over d w c y p some h share = record {
  positive = h.positive;
  same = cancel d (p.top *ℤ pos w) (y *ℤ pos p.bottom) some
      (swap_right p.top (pos w) (pos d) ∙ ap (λ (z : ℤ). z *ℤ pos w) h.same ∙ swap_right c (pos p.bottom) (pos w)
      ∙ ap (λ (z : ℤ). z *ℤ pos p.bottom) (sym share) ∙ ap (λ (z : ℤ). z *ℤ pos p.bottom) (*ℤ_comm (pos d) y) ∙ swap_right y (pos d) (pos p.bottom));
}

sum_over_same : (w : ℕ) (x y : ℤ) (a p r : Ratio) → 0 < w → IsOver w a x → IsOver w p y → IsReducedForm r (sum a p) → IsOver w r (x +ℤ y)
sum_over_same w x y a p r some ha hp form = record {
  positive = form.reduced.positive;
  same = same_trans r (sum a p) (ratio (x +ℤ y) w) (some_product a.bottom p.bottom ha.positive hp.positive) form.same
      (same_trans (sum a p) (ratio (x *ℤ pos w +ℤ y *ℤ pos w) (w * w)) (ratio (x +ℤ y) w) (some_product w w some some) (sum_same a (ratio x w) p (ratio y w) ha.same hp.same)
      (ap (λ (z : ℤ). z *ℤ pos w) (sym (over_sum x y (pos w))) ∙ regroup (x +ℤ y) (pos w) (pos w) ∙ ap (λ (z : ℤ). (x +ℤ y) *ℤ z) (pos-*ℤ-pos w w)));
}

pub scaled_lows : (w : ℕ) (ps : List Ratio) (xs : List ℤ) → AreNumbers 1 ps xs → AreNumbers w ps (map (λ (x : ℤ). pos w *ℤ x) xs)
scaled_lows w [] [] h = tt
scaled_lows w [] (x ∷ xs) h = absurd h
scaled_lows w (p ∷ ps) [] h = absurd h
scaled_lows w (p ∷ ps) (x ∷ xs) h = (record { positive = h.0.positive; same = grown p.top x (pos p.bottom) (pos w) h.0.same }, scaled_lows w ps xs h.1)
  where
    grown : (t x b w : ℤ) → t *ℤ pos 1 ≡ x *ℤ b → t *ℤ w ≡ (w *ℤ x) *ℤ b
    grown t x b w e =
        let plain : t ≡ x *ℤ b = omega (arith, ints, e) in
        ap (λ (z : ℤ). z *ℤ w) plain ∙ swap_right x b w ∙ ap (λ (z : ℤ). z *ℤ b) (*ℤ_comm x w)

pub are_over : (d : ℕ) (ps : List Ratio) (xs : List ℤ) → AreNumbers d ps xs → AreOver d ps xs
are_over d [] [] h = tt
are_over d [] (x ∷ xs) h = absurd h
are_over d (p ∷ ps) [] h = absurd h
are_over d (p ∷ ps) (x ∷ xs) h = (h.0.same, are_over d ps xs h.1)

-- ---- one line

set_over : (w : ℕ) (ps : List Ratio) (xs : List ℤ) (j : ℕ) (y : ℤ) (a r : Ratio) → AreNumbers w ps xs → j < length ps → get_or ps j a ≡ a → ((x : ℤ) → IsOver w a x → IsOver w r (x +ℤ y)) → AreNumbers w (set ps j r) (bumped xs j y)
set_over w [] [] j y a r h below is step = absurd (omega (arith, below))
set_over w [] (x ∷ xs) j y a r h below is step = absurd h
set_over w (p ∷ ps) [] j y a r h below is step = absurd h
set_over w (p ∷ ps) (x ∷ xs) zero y a r h below is step = (step x (subst (λ (s : Ratio). IsOver w s x) is h.0), h.1)
set_over w (p ∷ ps) (x ∷ xs) (suc j) y a r h below is step = (h.0, set_over w ps xs j y a r h.1 (omega (arith, below)) is step)

pub moves_there : (l : Line) (old : List Ratio) (variable : ℕ) (a p r : Ratio) → 0 < length l.numbers.items → l.basic ≡ 2 + variable → variable < length old → get_or old variable a ≡ a → get_or l.numbers.items 0 p ≡ p → IsReducedForm r (sum a p)
    → Moves l old (set old variable r)
moves_there l old variable a p r some basic below is is0 form = λ q w n y xs reads positive share h.
    (let over = share_over q.below w (constant q) y p reads.positive (number_over q.below 0 l.numbers.items q.numbers p reads.numbers_are some is0) share in
    let made = set_over w old xs variable y a r h below is (λ x k. sum_over_same w x y a p r positive k over form) in
    let at : q.basic ≡ 2 + variable = sym reads.basic_is ∙ basic in
    subst (λ (b : ℕ). AreNumbers w (set old variable r) (if nat_lt b 2 then xs else bumped xs (b - 2) y)) (sym at) (behind w (set old variable r) xs y variable made))
  where
    behind : (w : ℕ) (ps : List Ratio) (xs : List ℤ) (y : ℤ) (v : ℕ) → AreNumbers w ps (bumped xs v y) → AreNumbers w ps (if nat_lt (2 + v) 2 then xs else bumped xs ((2 + v) - 2) y)
    behind w ps xs y v h = by_test (nat_lt (2 + v) 2) refl
      where
        by_test : (t : Bool) → nat_lt (2 + v) 2 ≡ t → AreNumbers w ps (if t then xs else bumped xs ((2 + v) - 2) y)
        by_test true e = absurd (grind (arith, nat_tests))
        by_test false e =
            let same : (2 + v) - 2 ≡ v = omega arith in
            subst (λ (k : ℕ). AreNumbers w ps (bumped xs k y)) (sym same) h

pub moves_nothing : (l : Line) (old : List Ratio) → (l.basic < 2) ⊎ (2 + length old ≤ l.basic) → Moves l old old
moves_nothing l old none = λ q w n y xs reads positive share h. by_place q w y xs h (subst (λ (b : ℕ). (b < 2) ⊎ (2 + length old ≤ b)) reads.basic_is none)
  where
    by_place : (q : Equation) (w : ℕ) (y : ℤ) (xs : List ℤ) → AreNumbers w old xs → (q.basic < 2) ⊎ (2 + length old ≤ q.basic) → AreNumbers w old (if nat_lt q.basic 2 then xs else bumped xs (q.basic - 2) y)
    by_place q w y xs h (inl low) = by_test (nat_lt q.basic 2) refl
      where
        by_test : (t : Bool) → nat_lt q.basic 2 ≡ t → AreNumbers w old (if t then xs else bumped xs (q.basic - 2) y)
        by_test true e = h
        by_test false e = absurd (grind (arith, nat_tests))
    by_place q w y xs h (inr high) = by_test (nat_lt q.basic 2)
      where
        past : length xs ≤ q.basic - 2
        past = (let same = numbers_length w old xs h in omega (arith, same, high))

        by_test : (t : Bool) → AreNumbers w old (if t then xs else bumped xs (q.basic - 2) y)
        by_test true = h
        by_test false = subst (λ (zs : List ℤ). AreNumbers w old zs) (sym (bumped_past xs (q.basic - 2) y past)) h

-- ---- all lines

pub record Moving (n w : ℕ) (qs : List Equation) (ys base : List ℤ) (i : ℕ) (point : List Ratio) : Type 0 where
  pub xs : List ℤ
  pub over : AreNumbers w point xs
  pub left : moved_all n (drop i qs) (drop i ys) xs ≡ moved_all n qs ys base

pub moving_first : (n w : ℕ) (qs : List Equation) (ys base : List ℤ) (point : List Ratio) → AreNumbers w point base → Moving n w qs ys base 0 point
moving_first n w qs ys base point h = record { xs = base; over = h; left = refl }

shares_length : (w : ℕ) (qs : List Equation) (ys : List ℤ) → AreShares w qs ys → length ys ≡ length qs
shares_length w [] [] h = refl
shares_length w [] (y ∷ ys) h = absurd h
shares_length w (q ∷ qs) [] h = absurd h
shares_length w (q ∷ qs) (y ∷ ys) h = ap suc (shares_length w qs ys h.1)

share_at : (w : ℕ) (qs : List Equation) (ys : List ℤ) (i : ℕ) (d : Equation) (e : ℤ) → AreShares w qs ys → i < length qs → pos (get_or qs i d).below *ℤ get_or ys i e ≡ constant (get_or qs i d) *ℤ pos w
share_at w [] [] i d e h below = absurd (omega (arith, below))
share_at w [] (y ∷ ys) i d e h below = absurd h
share_at w (q ∷ qs) [] i d e h below = absurd h
share_at w (q ∷ qs) (y ∷ ys) zero d e h below = h.0
share_at w (q ∷ qs) (y ∷ ys) (suc i) d e h below = share_at w qs ys i d e h.1 (omega (arith, below))

pub moving_more : (n w : ℕ) (qs : List Equation) (ys base : List ℤ) (i : ℕ) (ls : List Line) (line : Line) (point next : List Ratio) → 0 < w → AreRead qs ls → AreShares w qs ys → i < length ls → get_or ls i line ≡ line → Moving n w qs ys base i point → Moves line point next
    → Moving n w qs ys base (i + 1) next
moving_more n w qs ys base i ls line point next some h shares below is m moves =
    let d : Equation = equation 1 0 [] in
    let small : i < length qs = subst (λ (k : ℕ). i < k) (sym (length_read qs ls h)) below in
    let small2 : i < length ys = subst (λ (k : ℕ). i < k) (sym (shares_length w qs ys shares)) small in
    let q = get_or qs i d in
    let y = get_or ys i (pos 0) in
    let reads = read_at qs ls i d line h below is in
    record {
      xs = moved n q y m.xs;
      over = moves q w n y m.xs reads some (share_at w qs ys i d (pos 0) shares small) m.over;
      left = sym (ap (λ (ps : List Equation). moved_all n ps (drop i ys) m.xs) (drop-at qs i d small) ∙ ap (λ (zs : List ℤ). moved_all n (q ∷ drop (i + 1) qs) zs m.xs) (drop-at ys i (pos 0) small2)) ∙ m.left;
    }

pub moving_whole : (n w : ℕ) (qs : List Equation) (ys base : List ℤ) (i : ℕ) (ls : List Line) (point : List Ratio) → AreRead qs ls → length ls ≤ i → Moving n w qs ys base i point → AreNumbers w point (moved_all n qs ys base)
moving_whole n w qs ys base i ls point h past m =
    subst (λ (zs : List ℤ). AreNumbers w point zs) (sym (ap (λ (ps : List Equation). moved_all n ps (drop i ys) m.xs) (dropped qs i (subst (λ (k : ℕ). k ≤ i) (sym (length_read qs ls h)) past))) ∙ m.left) m.over
  where
    dropped : (xs : List Equation) (i : ℕ) → length xs ≤ i → drop i xs ≡ []
    dropped [] zero h = refl
    dropped [] (suc i) h = refl
    dropped (x ∷ xs) zero h = absurd (omega (arith, h))
    dropped (x ∷ xs) (suc i) h = dropped xs i (omega (arith, h))
