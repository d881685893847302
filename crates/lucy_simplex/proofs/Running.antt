-- What lines say of the run, and a pivot of it.
use Rattle.std.proofs.Common.{◌≡◌, ◌≢◌, ◌⊎◌, inl, inr, ℕ, zero, suc, ◌+◌, ◌<◌, ◌≤◌, ℤ, pos, neg_ℤ, ◌≤ℤ◌, ◌<ℤ◌, List, [], ◌∷◌, length, get_or, slice_get, Some, None, ap, sym, ◌∙◌, refl, subst, arith}
use Rattle.std.proofs.lemmas.Int.{ints}
use Rattle.lucy_clauses.specs.Sums.{number_at}
use Rattle.lucy_fraction.specs.Rationals.{Ratio}
use Rattle.lucy_simplex.specs.declared.lines.Line.{Line}
use Rattle.lucy_simplex.specs.declared.quotients.Best.{Best}
use Rattle.lucy_simplex.specs.declared.stops.Stop.{Stop}
use Rattle.lucy_simplex.specs.Tableaus.{Equation, solved, exchanged}
use Rattle.lucy_simplex.specs.Reading.{Reads, AreRead, HasShape}
use Rattle.lucy_simplex.specs.Choices.{fall, IsBest}
use Rattle.lucy_simplex.specs.Widths.{StopsFor, HasQuotientTooWide, IsPivotTooWide}
use Rattle.lucy_simplex.specs.Runs.{CanImprove, RunsTo, HasNoAuxiliary, IsStuck, IsRunTooWide}
use Rattle.lucy_simplex.specs.Ends.{FirstBelow, LooksLike, HasLowest, HasLeaving, HasRun, HasNext, IsLaterTooWide, IsOpen, Ended}
use Rattle.lucy_simplex.specs.declared.runs.Look.{Look}
use Rattle.lucy_simplex.specs.declared.runs.Look.TheVariants.{Point, Stuck, Improves}
use Rattle.lucy_simplex.proofs.Orders.{sign_is_read_lem}
use Rattle.lucy_simplex.proofs.Sweeping.{length_read, read_there, there_in}
use Rattle.lucy_simplex.proofs.Shapes.{shape_length, any_default}
use Rattle.lucy_simplex.proofs.ReadLines.{number_over, numbers_length}
use Rattle.lucy_simplex.proofs.LeastQuotient.{last_or_before, weight_above}
use Rattle.lucy_simplex.proofs.Staging.{below_length, number_within}
use Rattle.lucy_simplex.proofs.Stopping.{stops_any}

-- ---- what lines say

pub number_past : (xs : List ℤ) (k : ℕ) → length xs ≤ k → number_at xs k ≡ pos 0
number_past [] k h = refl
number_past (x ∷ xs) zero h = absurd (omega (arith, h))
number_past (x ∷ xs) (suc k) h = number_past xs k (omega (arith, h))

pub none_below : (q : Equation) (l : Line) (place : ℕ) → Reads q l → length l.numbers.items ≤ place → ((k : ℕ) → 1 < k → k < place → pos 0 ≤ℤ number_at q.numbers k) → (k : ℕ) → 1 < k → pos 0 ≤ℤ number_at q.numbers k
none_below q l place h past all k behind = by_place (below_or_not k place)
  where
    below_or_not : (a b : ℕ) → (a < b) ⊎ (b ≤ a)
    below_or_not a zero = inr (omega arith)
    below_or_not zero (suc b) = inl (omega arith)
    below_or_not (suc a) (suc b) = further (below_or_not a b)
      where
        further : (a < b) ⊎ (b ≤ a) → (suc a < suc b) ⊎ (suc b ≤ suc a)
        further (inl x) = inl (omega (arith, x))
        further (inr y) = inr (omega (arith, y))

    at_least : (x : ℤ) → x ≡ pos 0 → pos 0 ≤ℤ x
    at_least x e = omega (arith, ints, e)

    by_place : (k < place) ⊎ (place ≤ k) → pos 0 ≤ℤ number_at q.numbers k
    by_place (inl a) = all k behind a
    by_place (inr b) = at_least (number_at q.numbers k) (number_past q.numbers k (let same = numbers_length q.below l.numbers.items q.numbers h.numbers_are in omega (arith, same, past, b)))

pub one_more : (q : Equation) (place : ℕ) → ((k : ℕ) → 1 < k → k < place → pos 0 ≤ℤ number_at q.numbers k) → pos 0 ≤ℤ number_at q.numbers place → (k : ℕ) → 1 < k → k < place + 1 → pos 0 ≤ℤ number_at q.numbers k
one_more q place all last k behind small = by_place (last_or_before place k small)
  where
    by_place : (k < place) ⊎ (k ≡ place) → pos 0 ≤ℤ number_at q.numbers k
    by_place (inl a) = all k behind a
    by_place (inr b) = subst (λ (i : ℕ). pos 0 ≤ℤ number_at q.numbers i) (sym b) last

pub no_auxiliary : (qs : List Equation) (ls : List Line) → AreRead qs ls → ((k : ℕ) (d : Line) → k < length ls → (get_or ls k d).basic ≢ 1) → HasNoAuxiliary qs
no_auxiliary [] ls h all i q there one = absurd (cc)
no_auxiliary (p ∷ qs) [] h all i q there one = absurd h
no_auxiliary (p ∷ qs) (l ∷ ls) h all zero q there one =
    let same : p ≡ q = cc in
    all 0 l (omega arith) (h.0.basic_is ∙ ap (λ (x : Equation). x.basic) same ∙ one)
no_auxiliary (p ∷ qs) (l ∷ ls) h all (suc i) q there one = no_auxiliary qs ls h.1 (λ k d small. all (suc k) d (omega (arith, small))) i q there one

pub stuck_at : (qs : List Equation) (ls : List Line) (place : ℕ) (line : Line) → AreRead qs ls → place < length ls → get_or ls place line ≡ line → ((d : Line) → (get_or ls place d).basic ≡ 1)
    → ((q : Equation) → Reads q line → FirstBelow q None) → IsStuck place qs
stuck_at qs ls place line h small is one none =
    let t = there_in qs ls place line h small is in
    record { auxiliary = t.q; there = t.there; basic_is = sym t.reads.basic_is ∙ sym (ap (λ (x : Line). x.basic) is) ∙ one line; none_improves = none t.q t.reads }

pub improves_at : (qs : List Equation) (ls : List Line) (place e : ℕ) (line : Line) → AreRead qs ls → place < length ls → get_or ls place line ≡ line → ((d : Line) → (get_or ls place d).basic ≡ 1)
    → ((q : Equation) → Reads q line → FirstBelow q (Some e)) → CanImprove place e qs
improves_at qs ls place e line h small is one some =
    let t = there_in qs ls place line h small is in
    let f = some t.q t.reads in
    record { auxiliary = t.q; there = t.there; basic_is = sym t.reads.basic_is ∙ sym (ap (λ (x : Line). x.basic) is) ∙ one line; behind = f.0; falls = f.1; first = f.2 }

-- ---- what leaves

pub entering_within : (n place e : ℕ) (ls : List Line) → HasShape n ls → ((qs : List Equation) → AreRead qs ls → CanImprove place e qs) → e < n
entering_within n place e ls h improves =
    let i = improves h.qs h.read in
    subst (λ (k : ℕ). e < k) (h.tableau.each place i.auxiliary i.there).length_is (number_within i.auxiliary.numbers e i.falls)

pub best_leaves : (e : ℕ) (ls : List Line) (b : Best) → ((qs : List Equation) → AreRead qs ls → IsBest (fall e) qs (length ls) (Some b)) → (qs : List Equation) → AreRead qs ls → HasLeaving e b.place qs
best_leaves e ls b best qs h =
    let t = best qs h in (
      t.0,
      record {
        there = t.1;
        falls = weight_above (fall e) t.0 b.quotient t.3;
        first = λ i p at falls. t.4 i p (subst (λ (k : ℕ). i < k) (length_read qs ls h) (below_length qs i p at)) at falls;
      },
    )

pub some_leaves : (n place e : ℕ) (ls : List Line) → HasShape n ls → ((qs : List Equation) → AreRead qs ls → CanImprove place e qs) → ((qs : List Equation) → AreRead qs ls → IsBest (fall e) qs (length ls) None) → ⊥
some_leaves n place e ls h improves none =
    let i = improves h.qs h.read in
    not_both (number_at i.auxiliary.numbers e) i.falls (none h.qs h.read place i.auxiliary (subst (λ (k : ℕ). place < k) (length_read h.qs ls h.read) (below_length h.qs place i.auxiliary i.there)) i.there)
  where
    not_both : (x : ℤ) → x <ℤ pos 0 → neg_ℤ x ≤ℤ pos 0 → ⊥
    not_both x a b = omega (arith, ints, a, b)

-- ---- where a pivot is allowed

pub place_within : (n place : ℕ) (ls : List Line) (q : Equation) (h : HasShape n ls) → slice_get h.qs place ≡ Some q → place < length ls
place_within n place ls q h there = subst (λ (k : ℕ). place < k) (length_read h.qs ls h.read) (below_length h.qs place q there)

pub nonzero_there : (n place e : ℕ) (ls : List Line) (q : Equation) (h : HasShape n ls) → slice_get h.qs place ≡ Some q → e < n → number_at q.numbers e ≢ pos 0 → (d : Line) (p : Ratio) → (get_or (get_or ls place d).numbers.items e p).top ≢ pos 0
nonzero_there n place e ls q h there wide some d p =
    let small = place_within n place ls q h there in
    let l = get_or ls place d in
    let is : get_or ls place l ≡ l = any_default ls place d l small refl in
    let r = read_there h.qs ls place q l h.read there small is in
    let long : e < length l.numbers.items = subst (λ (k : ℕ). e < k) (sym (shape_length n ls place l h small is)) wide in
    let f = get_or l.numbers.items e p in
    let over = number_over q.below e l.numbers.items q.numbers f r.numbers_are long (any_default l.numbers.items e p f long refl) in
    λ z. (some ((sign_is_read_lem q.below f (number_at q.numbers e) r.positive over).2 z))

pub falls_some : (e : ℕ) (q : Equation) → pos 0 <ℤ fall e q → number_at q.numbers e ≢ pos 0
falls_some e q h = not_none (number_at q.numbers e) h
  where
    not_none : (x : ℤ) → pos 0 <ℤ neg_ℤ x → x ≢ pos 0
    not_none x a b = omega (arith, ints, a, b)

pub one_some : (q : Equation) → number_at q.numbers 1 ≡ pos 1 → number_at q.numbers 1 ≢ pos 0
one_some q h = not_none (number_at q.numbers 1) h
  where
    not_none : (x : ℤ) → x ≡ pos 1 → x ≢ pos 0
    not_none x a b = omega (arith, ints, a, b)

-- ---- a pivot of the run

pub next_after : (place e auxiliary : ℕ) (qs : List Equation) (ls all : List Line) → AreRead qs ls → CanImprove auxiliary e qs → HasLeaving e place qs
    → ((qs : List Equation) → AreRead qs ls → (q : Equation) → slice_get qs place ≡ Some q → AreRead (exchanged (solved e q) e place qs) all) → HasNext qs all
next_after place e auxiliary qs ls all h improves leaves reads = record {
  rs = exchanged (solved e leaves.0) e place qs;
  read = reads qs h leaves.0 leaves.1.there;
  next = λ made. record { entering = e; place = place; leaving = leaves.0; chosen = (auxiliary, improves, leaves.1); is = refl };
}

pub choice_too_wide : (e auxiliary : ℕ) (qs : List Equation) (stop : Stop) → CanImprove auxiliary e qs → StopsFor (HasQuotientTooWide e qs) stop → StopsFor (IsLaterTooWide qs) stop
choice_too_wide e auxiliary qs stop improves h =
    stops_any (HasQuotientTooWide e qs) (IsLaterTooWide qs) stop (λ n w made. inl (record { auxiliary = auxiliary; entering = e; improves = improves; wide = w })) h

pub pivot_too_wide : (place e auxiliary : ℕ) (qs : List Equation) (stop : Stop) → CanImprove auxiliary e qs → (leaves : HasLeaving e place qs) → StopsFor (IsPivotTooWide e place leaves.0 qs) stop → StopsFor (IsLaterTooWide qs) stop
pivot_too_wide place e auxiliary qs stop improves leaves h =
    stops_any (IsPivotTooWide e place leaves.0 qs) (IsLaterTooWide qs) stop (λ n w made. inr (record { entering = e; place = place; leaving = leaves.0; chosen = (auxiliary, improves, leaves.1); wide = w })) h

-- ---- the run

pub first_run : (place : ℕ) (first : List Equation) (ls all : List Line) → AreRead first ls → HasLowest place first
    → ((qs : List Equation) → AreRead qs ls → (q : Equation) → slice_get qs place ≡ Some q → AreRead (exchanged (solved 1 q) 1 place qs) all) → HasRun first 1 all
first_run place first ls all h lowest reads = record {
  qs = exchanged (solved 1 lowest.0) 1 place first;
  read = reads first h lowest.0 lowest.1.there;
  runs = (first, refl, record { entering = 1; place = place; leaving = lowest.0; chosen = (refl, lowest.1); is = refl });
}

pub first_too_wide : (place turns : ℕ) (first : List Equation) (stop : Stop) → 0 < turns → (lowest : HasLowest place first) → StopsFor (IsPivotTooWide 1 place lowest.0 first) stop → StopsFor (IsRunTooWide first turns) stop
first_too_wide place turns first stop some lowest h =
    stops_any (IsPivotTooWide 1 place lowest.0 first) (IsRunTooWide first turns) stop
    (λ n w. record { made = 0; within = some; qs = first; runs = refl; wide = record { entering = 1; place = place; leaving = lowest.0; chosen = (refl, lowest.1); wide = w } }) h

pub next_run : (first : List Equation) (made : ℕ) (ls all : List Line) → 0 < made → HasRun first made ls → ((qs : List Equation) → AreRead qs ls → HasNext qs all) → HasRun first (made + 1) all
next_run first zero ls all some h next = absurd (omega (arith, some))
next_run first (suc made) ls all some h next =
    let n = next h.qs h.read in
    let e : suc (suc made) ≡ suc made + 1 = omega arith in
    record { qs = n.rs; read = n.read; runs = subst (λ (k : ℕ). RunsTo first k n.rs) e (h.qs, h.runs, n.next made) }

pub later_too_wide : (first : List Equation) (made turns : ℕ) (ls : List Line) (stop : Stop) → 0 < made → made < turns → HasRun first made ls → ((qs : List Equation) → AreRead qs ls → StopsFor (IsLaterTooWide qs) stop) → StopsFor (IsRunTooWide first turns) stop
later_too_wide first zero turns ls stop some within h wide = absurd (omega (arith, some))
later_too_wide first (suc made) turns ls stop some within h wide =
    stops_any (IsLaterTooWide h.qs) (IsRunTooWide first turns) stop (λ n w. record { made = suc made; within = within; qs = h.qs; runs = h.runs; wide = w made }) (wide h.qs h.read)

pub ended : (first : List Equation) (turns made : ℕ) (ls more : List Line) (look : Look) → 0 < made → made ≤ turns → more ≡ ls → HasRun first made ls → ((qs : List Equation) → AreRead qs more → LooksLike qs look) → (IsOpen look → made ≡ turns)
    → Ended first turns ls look
ended first turns made ls more look some within same h looks last = record {
  made = made;
  some = some;
  within = within;
  qs = h.qs;
  read = h.read;
  runs = h.runs;
  looks = looks h.qs (subst (λ (xs : List Line). AreRead h.qs xs) (sym same) h.read);
  open_at_last = last;
}

pub not_open : (look : Look) → ((a e : ℕ) → look ≡ Improves a e → ⊥) → IsOpen look → ⊥
not_open Point h k = k
not_open (Stuck place) h k = k
not_open (Improves a e) h k = h a e refl
