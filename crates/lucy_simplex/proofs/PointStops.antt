-- A coordinate that is too wide is that of a variable at its lower bound, moved once.
use Rattle.std.proofs.Common.{◌≡◌, ℕ, zero, suc, ◌+◌, ◌*◌, ◌<◌, ℤ, pos, neg_ℤ, ◌+ℤ◌, ◌*ℤ◌, List, [], ◌∷◌, length, get_or, slice_get, Some, ap, sym, ◌∙◌, refl, subst, arith}
use Rattle.std.proofs.lemmas.Int.{ints}
use Rattle.std.proofs.lemmas.Option.{slice_get_within, slice_get-get_or, get_or_from_slice_get}
use Rattle.lucy_clauses.specs.declared.formulas.Range.{Range}
use Rattle.lucy_clauses.specs.Sums.{number_at}
use Rattle.lucy_fraction.specs.Rationals.{Ratio, ratio, sum, IsSame}
use Rattle.lucy_fraction.proofs.Ratios.{sum_same}
use Rattle.lucy_simplex.specs.declared.stops.Stop.{Stop}
use Rattle.lucy_simplex.specs.declared.lines.Line.{Line}
use Rattle.lucy_simplex.specs.Systems.{lows_of}
use Rattle.lucy_simplex.specs.Tableaus.{Equation, IsTableau, constant}
use Rattle.lucy_simplex.specs.Steps.{IsOver, AreNumbers}
use Rattle.lucy_simplex.specs.Reading.{AreRead}
use Rattle.lucy_simplex.specs.Runs.{HasNoAuxiliary}
use Rattle.lucy_simplex.specs.Points.{KeepsOthers, IsMoveTooWide, IsAtLow, AreUnmoved}
use Rattle.lucy_simplex.specs.Causes.{IsPointTooWide}
use Rattle.lucy_simplex.specs.Widths.{StopsAt, StopsFor}
use Rattle.lucy_simplex.proofs.Over.{wide_same}
use Rattle.lucy_simplex.proofs.ReadLines.{number_over, numbers_length}
use Rattle.lucy_simplex.proofs.Sweeping.{there_in}
use Rattle.lucy_simplex.proofs.Stopping.{stops_for}
use Rattle.lucy_simplex.proofs.Farkas.{length-mapped}

some_product : (a b : ℕ) → 0 < a → 0 < b → 0 < a * b
some_product a b p q = grind arith

at_low : (bounds : List Range) (point : List Ratio) (v : ℕ) (b : Range) → AreNumbers 1 point (lows_of bounds) → slice_get bounds v ≡ Some b → IsAtLow b v point
at_low [] point v b h at = absurd (cc)
at_low (x ∷ bounds) [] v b h at = absurd h
at_low (x ∷ bounds) (p ∷ point) zero b h at = (let same : x ≡ b = cc in record { number = p; there = refl; over = subst (λ (r : Range). IsOver 1 p r.lo) same h.0 })
at_low (x ∷ bounds) (p ∷ point) (suc v) b h at = (let r = at_low bounds point v b h.1 at in record { number = r.number; there = r.there; over = r.over })

pub unmoved_first : (ls : List Line) (bounds : List Range) (point : List Ratio) → AreNumbers 1 point (lows_of bounds) → AreUnmoved ls 0 bounds point
unmoved_first ls bounds point h = record {
  count = numbers_length 1 point (lows_of bounds) h ∙ length-mapped (λ (b : Range). b.lo) bounds;
  each = λ v b at none. at_low bounds point v b h at;
}

pub unmoved_more : (ls : List Line) (i : ℕ) (line : Line) (bounds : List Range) (old new : List Ratio) → i < length ls → get_or ls i line ≡ line → KeepsOthers line old new → AreUnmoved ls i bounds old → AreUnmoved ls (i + 1) bounds new
unmoved_more ls i line bounds old new below is keeps u = record {
  count = keeps.count ∙ u.count;
  each = λ v b at none.
      (let own : slice_get ls i ≡ Some line = slice_get-get_or ls i line below ∙ ap (λ (l : Line). Some l) is in
      let r = u.each v b at (λ k l less there. none k l (omega (arith, less)) there) in
      record { number = r.number; there = keeps.others v (none i line (omega arith) own) ∙ r.there; over = r.over });
}

-- two equations of a tableau have different basic variables
basics_apart : (n k i : ℕ) (p q : Equation) (qs : List Equation) → IsTableau n qs → slice_get qs k ≡ Some p → slice_get qs i ≡ Some q → k < i → p.basic ≡ q.basic → ⊥
basics_apart n k i p q qs t at at2 less same =
    let apart : number_at p.numbers q.basic ≡ pos 0 = t.apart k i p q at at2 (λ e. (omega (arith, less, e))) in
    let e = t.each k p at in
    let own : number_at p.numbers p.basic ≡ neg_ℤ (pos p.below) = e.own in
    not_none p.below e.positive (sym own ∙ ap (number_at p.numbers) same ∙ apart)
  where
    not_none : (d : ℕ) → 0 < d → neg_ℤ (pos d) ≡ pos 0 → ⊥
    not_none zero some h = omega (arith, some)
    not_none (suc d) some h = omega (arith, ints, h)

moved_same : (number first : Ratio) (lo c : ℤ) (d : ℕ) → IsOver 1 number lo → IsOver d first c → IsSame (sum number first) (ratio (lo *ℤ pos d +ℤ c) d)
moved_same number first lo c d h k =
    let whole : ratio (lo *ℤ pos d +ℤ c *ℤ pos 1) (1 * d) ≡ ratio (lo *ℤ pos d +ℤ c) d = ap (λ (x : ℤ). ratio (lo *ℤ pos d +ℤ x) (1 * d)) (omega (arith, ints)) ∙ ap (λ (b : ℕ). ratio (lo *ℤ pos d +ℤ c) b) (omega arith) in
    subst (λ (r : Ratio). IsSame (sum number first) r) whole (sum_same number (ratio lo 1) first (ratio c d) h.same k.same)

pub move_stops : (n : ℕ) (qs : List Equation) (ls : List Line) (i : ℕ) (line : Line) (bounds : List Range) (point : List Ratio) (stop : Stop) → AreRead qs ls → IsTableau n qs → HasNoAuxiliary qs → i < length ls → get_or ls i line ≡ line
    → AreUnmoved ls i bounds point → StopsAt i (IsMoveTooWide line point) stop → StopsFor (IsPointTooWide bounds qs) stop
move_stops n qs ls i line bounds point stop h tableau left below is u stops =
    stops_for i (IsMoveTooWide line point) (IsPointTooWide bounds qs) stop (λ w.
    (let t = there_in qs ls i line h below is in
    let v = w.variable in
    let d : Range = record { lo = pos 0; hi = pos 0 } in
    let b = get_or bounds v d in
    let b_there : slice_get bounds v ≡ Some b = slice_get-get_or bounds v d (subst (λ (k : ℕ). v < k) u.count (slice_get_within point v w.number w.there)) in
    let basic : t.q.basic ≡ 2 + v = sym t.reads.basic_is ∙ w.basic_is in
    let low = u.each v b b_there (λ k l less at same.
    (let k_below : k < length ls = omega (arith, less, below) in
    let s = there_in qs ls k l h k_below (get_or_from_slice_get ls k l l at) in
    basics_apart n k i s.q t.q qs tableau s.there t.there less (sym s.reads.basic_is ∙ same ∙ sym basic))) in
    let number_is : low.number ≡ w.number = (let a = low.there in let c = w.there in cc) in
    let number_over_low : IsOver 1 w.number b.lo = subst (λ (p : Ratio). IsOver 1 p b.lo) number_is low.over in
    let first_over : IsOver t.q.below w.first (constant t.q) =
    number_over t.q.below 0 line.numbers.items t.q.numbers w.first t.reads.numbers_are (slice_get_within line.numbers.items 0 w.first w.first_there) (get_or_from_slice_get line.numbers.items 0 w.first w.first w.first_there) in
    record {
      left = left;
      equation = t.q;
      there = t.there;
      variable = v;
      basic_is = basic;
      bound = b;
      bound_there = b_there;
      wide = wide_same (sum w.number w.first) (ratio (b.lo *ℤ pos t.q.below +ℤ constant t.q) t.q.below) (some_product w.number.bottom w.first.bottom number_over_low.positive first_over.positive) (moved_same w.number w.first b.lo (constant t.q) t.q.below number_over_low first_over) w.wide;
    })) stops
