-- From stage to stage, and the answers at the end.
use Rattle.std.proofs.Common.{◌≡◌, ◌≢◌, ◌⊎◌, inl, inr, ℕ, zero, suc, ◌<◌, ℤ, pos, negsuc, neg_ℤ, ◌-ℤ◌, ◌*ℤ◌, ◌≤ℤ◌, ◌<ℤ◌, List, [], ◌∷◌, length, slice_get, Some, ap, sym, ◌∙◌, refl, subst, arith}
use Rattle.std.proofs.lemmas.Int.{ints}
use Rattle.lucy_clauses.specs.Sums.{number_at}
use Rattle.lucy_simplex.specs.Systems.{dot}
use Rattle.lucy_simplex.specs.Tableaus.{Equation, HaveLength, IsTableau, IsFeasible, IsBinding, constant, solved, eliminated, exchanged}
use Rattle.lucy_simplex.specs.First.{places_of, first_tableau}
use Rattle.lucy_simplex.specs.Runs.{IsLowest, Leaves}
use Rattle.lucy_simplex.proofs.Statements.{IsStage, LeavingBinds, FirstIsStage, PivotKeepsStage, RunsAreStages, StagePoints, StageRefutes}
use Rattle.lucy_simplex.proofs.Pivots.{pivot_keeps, holds_at}
use Rattle.lucy_simplex.proofs.Keeping.{Others, get-exchanged, solved_basic, keeps_tableau, keeps_feasible}
use Rattle.lucy_simplex.proofs.Orders.{pivot_keeps_positive_lem}
use Rattle.lucy_simplex.proofs.Begin.{first_is_tableau_lem, first_pivot_is_feasible_lem, first_ones, first_slacks}
use Rattle.lucy_simplex.proofs.Points.{basic_point_satisfies_lem}
use Rattle.lucy_simplex.proofs.Farkas.{no_improvement_refutes}

pub below_length : (qs : List Equation) (i : ℕ) (q : Equation) → slice_get qs i ≡ Some q → i < length qs
below_length [] i q h = absurd (cc)
below_length (p ∷ qs) zero q h = omega arith
below_length (p ∷ qs) (suc i) q h = (let r = below_length qs i q h in omega (arith, r))

pub one_there : (qs : List Equation) (i : ℕ) (p q : Equation) → slice_get qs i ≡ Some p → slice_get qs i ≡ Some q → p ≡ q
one_there qs i p q h k =
    let both : Some p ≡ Some q = sym h ∙ k in
    cc

pub leaving_binds_lem : LeavingBinds
leaving_binds_lem e place q qs leaves = record {
  falls = below (number_at q.numbers e) leaves.falls;
  least = λ i p at falls. (leaves.first i p at (above (number_at p.numbers e) falls)).least;
}
  where
    below : (x : ℤ) → pos 0 <ℤ neg_ℤ x → x <ℤ pos 0
    below x h = omega (arith, ints, h)

    above : (x : ℤ) → x <ℤ pos 0 → pos 0 <ℤ neg_ℤ x
    above x h = omega (arith, ints, h)

lengths_of : (n : ℕ) (qs : List Equation) → ((i : ℕ) (q : Equation) → slice_get qs i ≡ Some q → length q.numbers ≡ n) → HaveLength n qs
lengths_of n [] h = tt
lengths_of n (q ∷ qs) h = (h 0 q refl, lengths_of n qs (λ i p e. h (suc i) p e))

pub not_zero : (x : ℤ) → x <ℤ pos 0 → x ≢ pos 0
not_zero x h e = omega (arith, ints, h, e)

-- a number that is not 0 stands at a place of the list
pub number_within : (xs : List ℤ) (e : ℕ) → number_at xs e <ℤ pos 0 → e < length xs
number_within [] e h = absurd (omega (arith, ints, h))
number_within (x ∷ xs) zero h = omega arith
number_within (x ∷ xs) (suc e) h = (let r = number_within xs e h in omega (arith, r))

-- two equations of one basic variable stand at one place
pub same_basic : (n i j : ℕ) (p q : Equation) (qs : List Equation) → IsTableau n qs → slice_get qs i ≡ Some p → slice_get qs j ≡ Some q → p.basic ≡ q.basic → i ≢ j → ⊥
same_basic n i j p q qs t hp hq same ne =
    let own = (t.each i p hp).own in
    let some = (t.each i p hp).positive in
    let none = ap (number_at p.numbers) same ∙ t.apart i j p q hp hq ne in
    not_both (number_at p.numbers p.basic) p.below some own none
  where
    not_both : (x : ℤ) (d : ℕ) → 0 < d → x ≡ neg_ℤ (pos d) → x ≡ pos 0 → ⊥
    not_both x d some h k = omega (arith, ints, some, h, k)

-- the auxiliary variable stays above 0 where it does not leave, since it would leave among equals
auxiliary_above : (n place e i : ℕ) (q p : Equation) (qs : List Equation) → IsTableau n qs → IsFeasible qs → Leaves e place q qs → slice_get qs i ≡ Some p → i ≢ place → p.basic ≡ 1 → pos 0 <ℤ constant p
    → pos 0 <ℤ constant (eliminated (solved e q) e p)
auxiliary_above n place e i q p qs t feasible leaves there ne is_one above =
    pivot_keeps_positive_lem n place e i q p qs t feasible leaves.there there ne (leaving_binds_lem e place q qs leaves) above strict
  where
    falls_more : (x : ℤ) → x <ℤ pos 0 → pos 0 <ℤ neg_ℤ x
    falls_more x h = omega (arith, ints, h)

    less : (x y : ℤ) → x ≤ℤ y → (x ≡ y → ⊥) → x <ℤ y
    less x y h k = by_sign (y -ℤ x) refl
      where
        by_sign : (z : ℤ) → y -ℤ x ≡ z → x <ℤ y
        by_sign (pos zero) e = absurd (k (omega (arith, ints, e)))
        by_sign (pos (suc m)) e = omega (arith, ints, e)
        by_sign (negsuc m) e = absurd (omega (arith, ints, e, h))

    strict : number_at p.numbers e <ℤ pos 0 → (constant q *ℤ neg_ℤ (number_at p.numbers e)) <ℤ (constant p *ℤ neg_ℤ (number_at q.numbers e))
    strict falls =
        let first = leaves.first i p there (falls_more (number_at p.numbers e) falls) in
        less (constant q *ℤ neg_ℤ (number_at p.numbers e)) (constant p *ℤ neg_ℤ (number_at q.numbers e)) first.least
        (λ same. (
        let least = first.among_equals same in
        let some = (t.each place q leaves.there).basic_above in
        let also : p.basic ≡ q.basic = omega (arith, least, some, is_one) in
        same_basic n i place p q qs t there leaves.there also ne))

pub pivot_keeps_stage_lem : PivotKeepsStage
pivot_keeps_stage_lem rows bounds place e q qs s behind leaves = record {
  tableau = keeps_tableau (places_of rows bounds) place e q qs s.tableau leaves.there some (omega (arith, behind)) below;
  feasible = keeps_feasible (places_of rows bounds) place e q qs s.tableau s.feasible leaves.there binds;
  forth = λ v h. (pivot_keeps (places_of rows bounds) place e q qs v leaves.there some lengths).0 (s.forth v h);
  back = λ v h. s.back v ((pivot_keeps (places_of rows bounds) place e q qs v leaves.there some lengths).1 h);
  above = λ i r h one. above_of i r one (get-exchanged (solved e q) e place i r qs h);
}
  where
    binds : IsBinding e q qs
    binds = leaving_binds_lem e place q qs leaves

    some : number_at q.numbers e ≢ pos 0
    some = not_zero (number_at q.numbers e) (leaving_binds_lem e place q qs leaves).falls

    lengths : HaveLength (places_of rows bounds) qs
    lengths = lengths_of (places_of rows bounds) qs (λ i p h. (s.tableau.each i p h).length_is)

    below : e < places_of rows bounds
    below = subst (λ (k : ℕ). e < k) (s.tableau.each place q leaves.there).length_is (number_within q.numbers e (leaving_binds_lem e place q qs leaves).falls)

    above_of : (i : ℕ) (r : Equation) → r.basic ≡ 1 → ((i ≡ place) × (r ≡ solved e q)) ⊎ ((i ≢ place) × Others (solved e q) e qs i r) → pos 0 <ℤ constant r
    above_of i r one (inl a) =
        let basic = ap (λ (x : Equation). x.basic) a.1 ∙ solved_basic e (number_at q.numbers e) q.numbers in
        absurd (omega (arith, basic, one, behind))
    above_of i r one (inr b) =
        let was_one : b.1.was.basic ≡ 1 = ap (λ (x : Equation). x.basic) (sym b.1.is) ∙ one in
        subst (λ (x : Equation). pos 0 <ℤ constant x) (sym b.1.is)
        (auxiliary_above (places_of rows bounds) place e i q b.1.was qs s.tableau s.feasible leaves b.1.there b.0 was_one (s.above i b.1.was b.1.there was_one))

-- ---- the first pivot

pub first_is_stage_lem : FirstIsStage
first_is_stage_lem rows bounds place q lowest = record {
  tableau = keeps_tableau (places_of rows bounds) place 1 q (first_tableau rows bounds) (first_is_tableau_lem rows bounds) lowest.there some (omega arith) (omega arith);
  feasible = feasible.0;
  forth = λ v h. (pivot_keeps (places_of rows bounds) place 1 q (first_tableau rows bounds) v lowest.there some lengths).0 h;
  back = λ v h. (pivot_keeps (places_of rows bounds) place 1 q (first_tableau rows bounds) v lowest.there some lengths).1 h;
  above = λ i r h one. above_of i r one (get-exchanged (solved 1 q) 1 place i r (first_tableau rows bounds) h);
}
  where
    one_not_zero : (x : ℤ) → x ≡ pos 1 → x ≢ pos 0
    one_not_zero x h k = omega (arith, ints, h, k)

    some : number_at q.numbers 1 ≢ pos 0
    some = one_not_zero (number_at q.numbers 1) (first_ones rows bounds place q lowest.there).1

    lengths : HaveLength (places_of rows bounds) (first_tableau rows bounds)
    lengths = lengths_of (places_of rows bounds) (first_tableau rows bounds) (λ i p h. ((first_is_tableau_lem rows bounds).each i p h).length_is)

    feasible : IsFeasible (exchanged (solved 1 q) 1 place (first_tableau rows bounds)) × (pos 0 <ℤ constant (solved 1 q))
    feasible = first_pivot_is_feasible_lem (places_of rows bounds) place q (first_tableau rows bounds) (first_is_tableau_lem rows bounds) (first_ones rows bounds) lowest.there lowest.below lowest.least

    above_of : (i : ℕ) (r : Equation) → r.basic ≡ 1 → ((i ≡ place) × (r ≡ solved 1 q)) ⊎ ((i ≢ place) × Others (solved 1 q) 1 (first_tableau rows bounds) i r) → pos 0 <ℤ constant r
    above_of i r one (inl a) =
        let positive = first_pivot_is_feasible_lem (places_of rows bounds) place q (first_tableau rows bounds) (first_is_tableau_lem rows bounds) (first_ones rows bounds) lowest.there lowest.below lowest.least in
        subst (λ (x : Equation). pos 0 <ℤ constant x) (sym a.1) positive.1
    above_of i r one (inr b) =
        let was_one : b.1.was.basic ≡ 1 = ap (λ (x : Equation). x.basic) (sym b.1.is) ∙ one in
        let slack = first_slacks rows bounds i b.1.was b.1.there in
        absurd (omega (arith, was_one, slack))

pub runs_are_stages_lem : RunsAreStages
runs_are_stages_lem rows bounds zero qs some runs = absurd (omega (arith, some))
runs_are_stages_lem rows bounds (suc zero) rs some runs =
    let ps = runs.0 in
    let next = runs.2 in
    let one : next.entering ≡ 1 = next.chosen.0 in
    let lowest = subst (λ (xs : List Equation). IsLowest next.place next.leaving xs) runs.1 next.chosen.1 in
    let is : rs ≡ exchanged (solved 1 next.leaving) 1 next.place (first_tableau rows bounds) =
    next.is ∙ ap (λ (e : ℕ). exchanged (solved e next.leaving) e next.place ps) one ∙ ap (λ (xs : List Equation). exchanged (solved 1 next.leaving) 1 next.place xs) runs.1 in
    subst (IsStage rows bounds) (sym is) (first_is_stage_lem rows bounds next.place next.leaving lowest)
runs_are_stages_lem rows bounds (suc (suc made)) rs some runs =
    let stage = runs_are_stages_lem rows bounds (suc made) runs.0 (omega arith) runs.1 in
    let next = runs.2 in
    subst (IsStage rows bounds) (sym next.is) (pivot_keeps_stage_lem rows bounds next.place next.entering next.leaving runs.0 stage next.chosen.1.behind next.chosen.2)

pub stage_points_lem : StagePoints
stage_points_lem rows bounds qs point names s gone basic =
    basic_point_satisfies_lem rows bounds qs point names (record { tableau = s.tableau; feasible = s.feasible; no_auxiliary = gone; follows = s.back }) basic

pub stage_refutes_lem : StageRefutes
stage_refutes_lem rows bounds place q qs c aux lows ms highs names s there numbers lows_count rows_count highs_count above lows_sign rows_sign highs_sign =
    no_improvement_refutes rows bounds c aux lows ms highs names (record {
      rows_count = rows_count;
      lows_count = lows_count;
      highs_count = highs_count;
      rows_sign = rows_sign;
      lows_sign = lows_sign;
      highs_sign = highs_sign;
      constant = above;
      follows = λ v h. subst (λ (xs : List ℤ). dot xs v ≡ pos 0) numbers (holds_at place q qs v there (s.forth v h));
    })
