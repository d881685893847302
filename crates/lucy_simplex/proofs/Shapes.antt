-- Lines that stand for a tableau.
use Rattle.std.proofs.Common.{◌≡◌, ◌≢◌, ℕ, zero, suc, ◌<◌, pos, List, [], ◌∷◌, length, get_or, slice_get, Some, sym, ◌∙◌, refl, subst, arith}
use Rattle.lucy_clauses.specs.Sums.{number_at}
use Rattle.lucy_fraction.specs.Rationals.{Ratio, ratio}
use Rattle.lucy_simplex.specs.Tableaus.{Equation, solved, exchanged}
use Rattle.lucy_simplex.specs.declared.lines.Line.{Line}
use Rattle.lucy_simplex.specs.Reading.{AreRead, HasShape}
use Rattle.lucy_simplex.proofs.Keeping.{keeps_tableau}
use Rattle.lucy_simplex.proofs.ReadLines.{number_over, number_not_zero, numbers_length}
use Rattle.lucy_simplex.proofs.Sweeping.{there_in}

pub shape_length : (n : ℕ) (ls : List Line) (i : ℕ) (l : Line) → HasShape n ls → i < length ls → get_or ls i l ≡ l → length l.numbers.items ≡ n
shape_length n ls i l h below is =
    let t = there_in h.qs ls i l h.read below is in
    numbers_length t.q.below l.numbers.items t.q.numbers t.reads.numbers_are ∙ (h.tableau.each i t.q t.there).length_is

-- whatever stands for an element past the end, a place within the list has one
pub any_default : {A : Type 0} (ls : List A) (i : ℕ) (d l : A) → i < length ls → get_or ls i d ≡ l → get_or ls i l ≡ l
any_default [] i d l h e = absurd (omega (arith, h))
any_default (m ∷ ls) zero d l h e = e
any_default (m ∷ ls) (suc i) d l h e = any_default ls i d l (omega (arith, h)) e

pub shape_lengths : (n : ℕ) (ls : List Line) → HasShape n ls → (k : ℕ) (d : Line) → k < length ls → length (get_or ls k d).numbers.items ≡ n
shape_lengths n ls h k d below = shape_length n ls k (get_or ls k d) h below (any_default ls k d (get_or ls k d) below refl)

pub shape_kept : (n : ℕ) (ls all : List Line) (place e : ℕ) (l : Line) (f : Ratio) (h : HasShape n ls) → place < length ls → get_or ls place l ≡ l → 0 < e → e < n → get_or l.numbers.items e f ≡ f → f.top ≢ pos 0
    → ((qs : List Equation) → AreRead qs ls → (q : Equation) → slice_get qs place ≡ Some q → AreRead (exchanged (solved e q) e place qs) all) → HasShape n all
shape_kept n ls all place e l f h below is above wide is_f nonzero step =
    let t = there_in h.qs ls place l h.read below is in
    let long : e < length l.numbers.items = subst (λ (k : ℕ). e < k) (sym (shape_length n ls place l h below is)) wide in
    let some = number_not_zero t.q.below f (number_at t.q.numbers e) t.reads.positive nonzero (number_over t.q.below e l.numbers.items t.q.numbers f t.reads.numbers_are long is_f) in
    record {
      qs = exchanged (solved e t.q) e place h.qs;
      read = step h.qs h.read t.q t.there;
      tableau = keeps_tableau n place e t.q h.qs h.tableau t.there some above wide;
    }

pub shape_after : (n : ℕ) (ls all : List Line) (place e : ℕ) (l : Line) (h : HasShape n ls) → place < length ls → get_or ls place l ≡ l → 0 < e → e < n
    → ((d : Line) (p : Ratio) → (get_or (get_or ls place d).numbers.items e p).top ≢ pos 0)
    → ((qs : List Equation) → AreRead qs ls → (q : Equation) → slice_get qs place ≡ Some q → AreRead (exchanged (solved e q) e place qs) all) → HasShape n all
shape_after n ls all place e l h below is above wide nonzero step =
    let f = get_or l.numbers.items e (ratio (pos 0) 1) in
    let long : e < length l.numbers.items = subst (λ (k : ℕ). e < k) (sym (shape_length n ls place l h below is)) wide in
    let some = subst (λ (m : Line). (get_or m.numbers.items e (ratio (pos 0) 1)).top ≢ pos 0) is (nonzero l (ratio (pos 0) 1)) in
    shape_kept n ls all place e l f h below is above wide (any_default l.numbers.items e (ratio (pos 0) 1) f long refl) some step
