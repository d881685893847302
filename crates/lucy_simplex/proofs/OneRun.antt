-- The run is one: rows and bounds determine each of its tableaus.
use Rattle.std.proofs.Common.{◌≡◌, ◌≢◌, ◌⊎◌, inl, inr, ℕ, zero, suc, ◌<◌, ◌≤◌, ℤ, pos, ◌*ℤ◌, ◌≤ℤ◌, ◌<ℤ◌, List, slice_get, Some, ap, sym, ◌∙◌, refl, subst, arith}
use Rattle.std.proofs.lemmas.Int.{ints}
use Rattle.lucy_clauses.specs.Sums.{number_at}
use Rattle.lucy_simplex.specs.Tableaus.{Equation, IsTableau, solved, exchanged, constant}
use Rattle.lucy_simplex.specs.Choices.{fall}
use Rattle.lucy_simplex.specs.First.{places_of, first_tableau}
use Rattle.lucy_simplex.specs.Runs.{IsLowest, CanImprove, Leaves}
use Rattle.lucy_simplex.specs.Laws.{RunsAreOne}
use Rattle.lucy_simplex.proofs.Begin.{first_is_tableau_lem}
use Rattle.lucy_simplex.proofs.Staging.{one_there, same_basic, runs_are_stages_lem}

same_or_not : (a b : ℕ) → (a ≡ b) ⊎ (a ≢ b)
same_or_not zero zero = inl refl
same_or_not zero (suc b) = inr (λ e. (omega (arith, e)))
same_or_not (suc a) zero = inr (λ e. (omega (arith, e)))
same_or_not (suc a) (suc b) = further (same_or_not a b)
  where
    further : (a ≡ b) ⊎ (a ≢ b) → (suc a ≡ suc b) ⊎ (suc a ≢ suc b)
    further (inl e) = inl (ap suc e)
    further (inr n) = inr (λ e. (n (omega (arith, e))))

-- equations of one basic variable stand at one place and are one
record One (i j : ℕ) (p q : Equation) : Type 0 where
  place : i ≡ j
  equation : p ≡ q

one_of : (n i j : ℕ) (p q : Equation) (qs : List Equation) → IsTableau n qs → slice_get qs i ≡ Some p → slice_get qs j ≡ Some q → p.basic ≡ q.basic → One i j p q
one_of n i j p q qs t hp hq same = by_place (same_or_not i j)
  where
    by_place : (i ≡ j) ⊎ (i ≢ j) → One i j p q
    by_place (inl e) = record { place = e; equation = one_there qs j p q (subst (λ (k : ℕ). slice_get qs k ≡ Some p) e hp) hq }
    by_place (inr ne) = absurd (same_basic n i j p q qs t hp hq same ne)

both_ways : (x y : ℤ) → x ≤ℤ y → y ≤ℤ x → x ≡ y
both_ways x y h k = omega (arith, ints, h, k)

lowest_one : (n i j : ℕ) (p q : Equation) (qs : List Equation) → IsTableau n qs → IsLowest i p qs → IsLowest j q qs → One i j p q
lowest_one n i j p q qs t h k =
    let same = both_ways (constant p) (constant q) (h.least j q k.there) (k.least i p h.there) in
    let one = h.among_equals j q k.there same in
    let two = k.among_equals i p h.there (sym same) in
    one_of n i j p q qs t h.there k.there (omega (arith, one, two))

leaves_one : (n e i j : ℕ) (p q : Equation) (qs : List Equation) → IsTableau n qs → Leaves e i p qs → Leaves e j q qs → One i j p q
leaves_one n e i j p q qs t h k =
    let left = h.first j q k.there k.falls in
    let right = k.first i p h.there h.falls in
    let same = both_ways (constant p *ℤ fall e q) (constant q *ℤ fall e p) left.least right.least in
    let one = left.among_equals same in
    let two = right.among_equals (sym same) in
    one_of n i j p q qs t h.there k.there (omega (arith, one, two))

entering_one : (n a b e f : ℕ) (qs : List Equation) → IsTableau n qs → CanImprove a e qs → CanImprove b f qs → e ≡ f
entering_one n a b e f qs t h k =
    let one = one_of n a b h.auxiliary k.auxiliary qs t h.there k.there (h.basic_is ∙ sym k.basic_is) in
    by_order (less_or_not e f) (less_or_not f e) one.equation
  where
    less_or_not : (x y : ℕ) → (x < y) ⊎ (y ≤ x)
    less_or_not x zero = inr (omega arith)
    less_or_not zero (suc y) = inl (omega arith)
    less_or_not (suc x) (suc y) = further (less_or_not x y)
      where
        further : (x < y) ⊎ (y ≤ x) → (suc x < suc y) ⊎ (suc y ≤ suc x)
        further (inl u) = inl (omega (arith, u))
        further (inr u) = inr (omega (arith, u))

    not_both : (x : ℤ) → x <ℤ pos 0 → pos 0 ≤ℤ x → ⊥
    not_both x u v = omega (arith, ints, u, v)

    by_order : (e < f) ⊎ (f ≤ e) → (f < e) ⊎ (e ≤ f) → h.auxiliary ≡ k.auxiliary → e ≡ f
    by_order (inl u) v same = absurd (not_both (number_at h.auxiliary.numbers e) h.falls (subst (λ (x : Equation). pos 0 ≤ℤ number_at x.numbers e) (sym same) (k.first e h.behind u)))
    by_order (inr u) (inl v) same = absurd (not_both (number_at k.auxiliary.numbers f) k.falls (subst (λ (x : Equation). pos 0 ≤ℤ number_at x.numbers f) same (h.first f k.behind v)))
    by_order (inr u) (inr v) same = omega (arith, u, v)

exchanged_one : (e f i j : ℕ) (p q : Equation) (qs : List Equation) → e ≡ f → One i j p q → exchanged (solved e p) e i qs ≡ exchanged (solved f q) f j qs
exchanged_one e f i j p q qs same one =
    ap (λ (k : ℕ). exchanged (solved k p) k i qs) same ∙ ap (λ (k : ℕ). exchanged (solved f p) f k qs) one.place ∙ ap (λ (x : Equation). exchanged (solved f x) f j qs) one.equation

pub runs_are_one_lem : RunsAreOne
runs_are_one_lem rows bounds zero qs rs h k = h ∙ sym k
runs_are_one_lem rows bounds (suc zero) qs rs h k =
    let first = first_tableau rows bounds in
    let t = first_is_tableau_lem rows bounds in
    let a = h.2 in
    let b = k.2 in
    let low_a = subst (λ (xs : List Equation). IsLowest a.place a.leaving xs) h.1 a.chosen.1 in
    let low_b = subst (λ (xs : List Equation). IsLowest b.place b.leaving xs) k.1 b.chosen.1 in
    let one = lowest_one (places_of rows bounds) a.place b.place a.leaving b.leaving first t low_a low_b in
    a.is ∙ ap (λ (xs : List Equation). exchanged (solved a.entering a.leaving) a.entering a.place xs) h.1
    ∙ exchanged_one a.entering b.entering a.place b.place a.leaving b.leaving first (a.chosen.0 ∙ sym b.chosen.0) one
    ∙ ap (λ (xs : List Equation). exchanged (solved b.entering b.leaving) b.entering b.place xs) (sym k.1) ∙ sym b.is
runs_are_one_lem rows bounds (suc (suc made)) qs rs h k =
    let before : h.0 ≡ k.0 = runs_are_one_lem rows bounds (suc made) h.0 k.0 h.1 k.1 in
    let t = (runs_are_stages_lem rows bounds (suc made) h.0 (omega arith) h.1).tableau in
    let a = h.2 in
    let b = k.2 in
    let improves = subst (λ (xs : List Equation). CanImprove b.chosen.0 b.entering xs) (sym before) b.chosen.1 in
    let same = entering_one (places_of rows bounds) a.chosen.0 b.chosen.0 a.entering b.entering h.0 t a.chosen.1 improves in
    let leaves = subst (λ (e : ℕ). Leaves e b.place b.leaving h.0) (sym same) (subst (λ (xs : List Equation). Leaves b.entering b.place b.leaving xs) (sym before) b.chosen.2) in
    let one = leaves_one (places_of rows bounds) a.entering a.place b.place a.leaving b.leaving h.0 t a.chosen.2 leaves in
    a.is ∙ exchanged_one a.entering b.entering a.place b.place a.leaving b.leaving h.0 same one
    ∙ ap (λ (xs : List Equation). exchanged (solved b.entering b.leaving) b.entering b.place xs) before ∙ sym b.is
