-- Lines as equations.
use Rattle.std.proofs.Common.{◌≡◌, ◌≢◌, ◌⊎◌, inl, inr, ℕ, zero, suc, ◌*◌, ◌<◌, ℤ, pos, ◌*ℤ◌, List, [], ◌∷◌, length, get_or, slice_get, Some, ap, sym, ◌∙◌, refl, subst, arith}
use Rattle.std.specs.List.{AllZip}
use Rattle.std.proofs.lemmas.Int.{ints}
use Rattle.std.proofs.Math.IntN.{zero-*ℤ}
use Rattle.lucy_clauses.specs.Sums.{number_at}
use Rattle.lucy_fraction.specs.Rationals.{Ratio, ratio, opposite, IsTooWide}
use Rattle.lucy_simplex.specs.Widths.{HasWideQuotient, HasWideSum, IsSolvedTooWide, IsEliminatedTooWide}
use Rattle.lucy_simplex.specs.Tableaus.{Equation, solved, eliminated}
use Rattle.lucy_simplex.specs.Steps.{IsDivided, AreAdded, IsOver, AreNumbers}
use Rattle.lucy_simplex.proofs.Dots.{no_factor}
use Rattle.lucy_simplex.proofs.Pivots.{solved_below}
use Rattle.lucy_simplex.proofs.Keeping.{solved_basic, eliminated_at}
use Rattle.lucy_simplex.proofs.Over.{divided_is_solved_lem, added_is_combined_lem, wide_quotient, wide_added}
use Rattle.lucy_simplex.specs.declared.lines.Line.{Line}
use Rattle.lucy_simplex.specs.Reading.{Reads}

pub number_over : (d e : ℕ) (ps : List Ratio) (xs : List ℤ) (p : Ratio) → AreNumbers d ps xs → e < length ps → get_or ps e p ≡ p → IsOver d p (number_at xs e)
number_over d e [] [] p h below is = absurd (omega (arith, below))
number_over d e [] (x ∷ xs) p h below is = absurd h
number_over d e (r ∷ ps) [] p h below is = absurd h
number_over d zero (r ∷ ps) (x ∷ xs) p h below is = subst (λ (s : Ratio). IsOver d s x) is h.0
number_over d (suc e) (r ∷ ps) (x ∷ xs) p h below is = number_over d e ps xs p h.1 (omega (arith, below)) is

pub number_there : (d e : ℕ) (ps : List Ratio) (xs : List ℤ) (p : Ratio) → AreNumbers d ps xs → slice_get ps e ≡ Some p → IsOver d p (number_at xs e)
number_there d e [] xs p h there = absurd (cc)
number_there d e (r ∷ ps) [] p h there = absurd h
number_there d zero (r ∷ ps) (x ∷ xs) p h there =
    let same : r ≡ p = cc in
    subst (λ (s : Ratio). IsOver d s x) same h.0
number_there d (suc e) (r ∷ ps) (x ∷ xs) p h there = number_there d e ps xs p h.1 there

pub numbers_length : (d : ℕ) (ps : List Ratio) (xs : List ℤ) → AreNumbers d ps xs → length ps ≡ length xs
numbers_length d [] [] h = refl
numbers_length d [] (x ∷ xs) h = absurd h
numbers_length d (p ∷ ps) [] h = absurd h
numbers_length d (p ∷ ps) (x ∷ xs) h = ap suc (numbers_length d ps xs h.1)

pub number_not_zero : (d : ℕ) (f : Ratio) (x : ℤ) → 0 < d → f.top ≢ pos 0 → IsOver d f x → x ≢ pos 0
number_not_zero d f x some nonzero h z =
    let none : f.top *ℤ pos d ≡ pos 0 = h.same ∙ ap (λ (y : ℤ). y *ℤ pos f.bottom) z ∙ zero-*ℤ (pos f.bottom) in
    nonzero (no_factor d f.top some (flip f.top (pos d) none))
  where
    flip : (a b : ℤ) → a *ℤ b ≡ pos 0 → b *ℤ a ≡ pos 0
    flip a b e = omega (arith, ints, e)

pub read_solved : (e : ℕ) (q : Equation) (l r : Line) (f : Ratio) → e < length l.numbers.items → get_or l.numbers.items e f ≡ f → f.top ≢ pos 0 → Reads q l → r.basic ≡ e → AllZip (IsDivided (opposite f)) r.numbers.items l.numbers.items → Reads (solved e q) r
read_solved e q l r f below is nonzero h b k =
    let x = number_at q.numbers e in
    let over = number_over q.below e l.numbers.items q.numbers f h.numbers_are below is in
    let some = number_not_zero q.below f x h.positive nonzero over in
    record {
      positive = solved_below e x q.numbers some;
      basic_is = b ∙ sym (solved_basic e x q.numbers);
      numbers_are = divided_is_solved_lem q.below e x f l.numbers.items r.numbers.items q.numbers h.positive some over h.numbers_are k;
    }

pub read_eliminated : (e : ℕ) (q s : Equation) (l by r : Line) (f : Ratio) → e < length l.numbers.items → get_or l.numbers.items e f ≡ f → Reads q l → Reads s by → r.basic ≡ l.basic → AreAdded f l.numbers.items by.numbers.items r.numbers.items → Reads (eliminated s e q) r
read_eliminated e q s l by r f below is h k b added =
    record {
      positive = some_product q.below s.below h.positive k.positive;
      basic_is = b ∙ h.basic_is;
      numbers_are = added_is_combined_lem q.below s.below (number_at q.numbers e) f l.numbers.items by.numbers.items r.numbers.items q.numbers s.numbers h.positive k.positive
          (number_over q.below e l.numbers.items q.numbers f h.numbers_are below is) h.numbers_are k.numbers_are added;
    }
  where
    some_product : (a b : ℕ) → 0 < a → 0 < b → 0 < a * b
    some_product a b p q = grind arith

-- ---- what is too wide

pub solved_too_wide : (e : ℕ) (q : Equation) (l : Line) (f : Ratio) → e < length l.numbers.items → get_or l.numbers.items e f ≡ f → f.top ≢ pos 0 → Reads q l → HasWideQuotient (opposite f) l.numbers.items → IsSolvedTooWide e q
solved_too_wide e q l f below is nonzero h w =
    let x = number_at q.numbers e in
    let over = number_over q.below e l.numbers.items q.numbers f h.numbers_are below is in
    let at = number_there q.below w.place l.numbers.items q.numbers w.number h.numbers_are w.there in
    record { place = w.place; wide = wide_quotient q.below e x (number_at q.numbers w.place) f w.number q.numbers w.place (number_not_zero q.below f x h.positive nonzero over) over at refl w.wide }

pub eliminated_too_wide : (e : ℕ) (q s : Equation) (l by : Line) (f : Ratio) → e < length l.numbers.items → get_or l.numbers.items e f ≡ f → length l.numbers.items ≡ length by.numbers.items → Reads q l → Reads s by → HasWideSum f l.numbers.items by.numbers.items → IsEliminatedTooWide s e q
eliminated_too_wide e q s l by f below is same h k w =
    let over = number_over q.below e l.numbers.items q.numbers f h.numbers_are below is in
    let at = number_there q.below w.place l.numbers.items q.numbers w.number h.numbers_are w.there in
    let other = number_there s.below w.place by.numbers.items s.numbers w.other k.numbers_are w.other_there in
    let x = number_at q.numbers e in
    let lengths : length q.numbers ≡ length s.numbers = sym (numbers_length q.below l.numbers.items q.numbers h.numbers_are) ∙ same ∙ numbers_length s.below by.numbers.items s.numbers k.numbers_are in
    let found = wide_added q.below s.below x (number_at q.numbers w.place) (number_at s.numbers w.place) f w.number w.other h.positive k.positive over at other w.wide in
    record { place = w.place; wide = joined (sym (eliminated_at s e w.place q lengths)) found }
  where
    joined : {A : Type 0} {z z' : ℤ} {n : ℕ} → z ≡ z' → A ⊎ IsTooWide (ratio z n) → A ⊎ IsTooWide (ratio z' n)
    joined e (inl a) = inl a
    joined {n = n} e (inr b) = inr (subst (λ (y : ℤ). IsTooWide (ratio y n)) e b)
