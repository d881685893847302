-- Where a run ends, and a multiplier or a coordinate is too wide.
use Rattle.std.proofs.Common.{◌≡◌, inl, inr, ℕ, zero, suc, ◌+◌, ◌<◌, ℤ, pos, ◌*ℤ◌, List, [], ◌∷◌, length, take, drop, get_or, ap, sym, ◌∙◌, subst, arith}
use Rattle.lucy_clauses.specs.declared.formulas.Range.{Range}
use Rattle.lucy_clauses.specs.Sums.{Form, number_at}
use Rattle.lucy_clauses.proofs.Products.{regroup}
use Rattle.lucy_fraction.specs.Rationals.{Ratio}
use Rattle.lucy_simplex.specs.declared.stops.Stop.{Stop}
use Rattle.lucy_simplex.specs.declared.lines.Line.{Line}
use Rattle.lucy_simplex.specs.declared.runs.Look.{Look}
use Rattle.lucy_simplex.specs.declared.runs.Look.TheVariants.{Point, Stuck}
use Rattle.lucy_simplex.specs.Tableaus.{Equation, IsTableau}
use Rattle.lucy_simplex.specs.Steps.{IsOver, AreNumbers}
use Rattle.lucy_simplex.specs.First.{places_of, first_tableau}
use Rattle.lucy_simplex.specs.Reading.{AreRead}
use Rattle.lucy_simplex.specs.Runs.{HasNoAuxiliary, IsRunTooWide}
use Rattle.lucy_simplex.specs.Ends.{LooksLike, Ended}
use Rattle.lucy_simplex.specs.Multipliers.{MakesWhole, MakesAllWhole, AreCommonsWide}
use Rattle.lucy_simplex.specs.Causes.{IsFirstTooWide, IsWholeBy, IsPointTooWide, IsEndTooWide, IsSomewhereTooWide}
use Rattle.lucy_simplex.specs.Widths.{StopsFor}
use Rattle.lucy_simplex.proofs.Over.{cancel, swap_right}
use Rattle.lucy_simplex.proofs.Stopping.{stops_any}
use Rattle.lucy_simplex.proofs.Sweeping.{read_there}
use Rattle.lucy_simplex.proofs.Ending.{stage_of, stuck_of, numbers_drop, number_drop}

-- what makes a number over d whole makes its fraction whole
whole_fraction : (w d : ℕ) (x : ℤ) (p : Ratio) → 0 < d → IsOver d p x → IsWholeBy w d x → MakesWhole w p
whole_fraction w d x p some over h = (
  h.0,
  cancel d (pos w *ℤ p.top) (h.0 *ℤ pos p.bottom) some
      (regroup (pos w) p.top (pos d) ∙ ap (λ (z : ℤ). pos w *ℤ z) over.same ∙ sym (regroup (pos w) x (pos p.bottom)) ∙ ap (λ (z : ℤ). z *ℤ pos p.bottom) h.1 ∙ swap_right h.0 (pos d) (pos p.bottom)),
)

whole_fractions : (w d count : ℕ) (ps : List Ratio) (xs : List ℤ) → 0 < d → AreNumbers d ps xs → ((k : ℕ) → k < count → IsWholeBy w d (number_at xs k)) → MakesAllWhole w (take count ps)
whole_fractions w d zero [] xs some h each = tt
whole_fractions w d zero (p ∷ ps) xs some h each = tt
whole_fractions w d (suc count) [] xs some h each = tt
whole_fractions w d (suc count) (p ∷ ps) [] some h each = absurd h
whole_fractions w d (suc count) (p ∷ ps) (x ∷ xs) some h each = (whole_fraction w d x p some h.0 (each 0 (omega arith)), whole_fractions w d count ps xs some h.1 (λ k less. each (suc k) (omega (arith, less))))

pub multipliers_stop : (rows : List Form) (bounds : List Range) (turns place : ℕ) (ls : List Line) (look : Look) (line : Line) (stop : Stop) → Ended (first_tableau rows bounds) turns ls look → look ≡ Stuck place → place < length ls → get_or ls place line ≡ line
    → StopsFor (AreCommonsWide (length bounds) (drop 2 line.numbers.items)) stop → StopsFor (IsEndTooWide rows bounds turns) stop
multipliers_stop rows bounds turns place ls look line stop e is below at stops =
    let variables = length bounds in
    let stuck = stuck_of rows bounds turns place ls look e is in
    let q = stuck.auxiliary in
    let reads = read_there e.qs ls place q line e.read stuck.there below at in
    stops_any (AreCommonsWide variables (drop 2 line.numbers.items)) (IsEndTooWide rows bounds turns) stop (λ n past. record {
      made = e.made;
      some = e.some;
      within = e.within;
      qs = e.qs;
      runs = e.runs;
      wide = inl (record {
        place = place;
        stuck = stuck;
        past = λ w some whole. past w some
            (whole_fractions w q.below (variables + n + 1) (drop 2 line.numbers.items) (drop 2 q.numbers) reads.positive (numbers_drop q.below 2 line.numbers.items q.numbers reads.numbers_are)
            (λ k less. subst (IsWholeBy w q.below) (sym (number_drop 2 q.numbers k)) (whole (2 + k) (omega arith) (omega (arith, less)))));
      });
    }) stops

pub point_stops : (rows : List Form) (bounds : List Range) (turns : ℕ) (ls more : List Line) (look : Look) (stop : Stop) → more ≡ ls → Ended (first_tableau rows bounds) turns ls look → look ≡ Point
    → ((qs : List Equation) (n : ℕ) → AreRead qs more → IsTableau n qs → HasNoAuxiliary qs → StopsFor (IsPointTooWide bounds qs) stop) → StopsFor (IsEndTooWide rows bounds turns) stop
point_stops rows bounds turns ls more look stop same e is stops =
    let left : HasNoAuxiliary e.qs = subst (λ (l : Look). LooksLike e.qs l) is e.looks in
    stops_any (IsPointTooWide bounds e.qs) (IsEndTooWide rows bounds turns) stop (λ n w. record { made = e.made; some = e.some; within = e.within; qs = e.qs; runs = e.runs; wide = inr w })
    (stops e.qs (places_of rows bounds) (subst (λ (xs : List Line). AreRead e.qs xs) (sym same) e.read) (stage_of rows bounds turns ls look e).tableau left)

pub first_somewhere : (rows : List Form) (bounds : List Range) (turns : ℕ) (stop : Stop) → StopsFor (IsFirstTooWide rows bounds) stop → StopsFor (IsSomewhereTooWide rows bounds turns) stop
first_somewhere rows bounds turns stop h = stops_any (IsFirstTooWide rows bounds) (IsSomewhereTooWide rows bounds turns) stop (λ n w. inl w) h

pub run_somewhere : (rows : List Form) (bounds : List Range) (turns : ℕ) (stop : Stop) → StopsFor (IsRunTooWide (first_tableau rows bounds) turns) stop → StopsFor (IsSomewhereTooWide rows bounds turns) stop
run_somewhere rows bounds turns stop h = stops_any (IsRunTooWide (first_tableau rows bounds) turns) (IsSomewhereTooWide rows bounds turns) stop (λ n w. inr (inl w)) h

pub end_somewhere : (rows : List Form) (bounds : List Range) (turns : ℕ) (stop : Stop) → StopsFor (IsEndTooWide rows bounds turns) stop → StopsFor (IsSomewhereTooWide rows bounds turns) stop
end_somewhere rows bounds turns stop h = stops_any (IsEndTooWide rows bounds turns) (IsSomewhereTooWide rows bounds turns) stop (λ n w. inr (inr w)) h
