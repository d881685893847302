-- The first tableau, and the first pivot.
use Rattle.std.proofs.Common.{◌≡◌, ◌≢◌, ◌⊎◌, inl, inr, ℕ, zero, suc, ◌+◌, ◌<◌, ◌≤◌, ℤ, pos, negsuc, neg_ℤ, ◌+ℤ◌, ◌-ℤ◌, ◌*ℤ◌, ◌≤ℤ◌, ◌<ℤ◌, List, [], ◌∷◌, ◌++◌, length, map, slice_get, Some, ap, sym, ◌∙◌, refl, subst, arith}
use Rattle.std.proofs.lemmas.Int.{ints}
use Rattle.lucy_clauses.specs.declared.formulas.Range.{Range}
use Rattle.lucy_clauses.specs.Sums.{Form, number_at}
use Rattle.lucy_simplex.specs.Systems.{lows_of}
use Rattle.lucy_simplex.specs.Tableaus.{Equation, equation, solved, solved_by, IsEquation, constant}
use Rattle.lucy_simplex.specs.First.{zeros, unit, dense, row_numbers, bound_numbers, row_equations, bound_equations, first_tableau}
use Rattle.lucy_simplex.proofs.Statements.{FirstIsTableau, FirstPivotIsFeasible}
use Rattle.lucy_simplex.proofs.Firsts.{length-bumped, length-zeros, length-dense, length-negative}
use Rattle.lucy_simplex.proofs.Pivots.{solved_length}
use Rattle.lucy_simplex.proofs.Keeping.{Others, get-exchanged, eliminated_at, number_at-negative}

length-append : (xs ys : List ℤ) → length (xs ++ ys) ≡ length xs + length ys
length-append [] ys = omega arith
length-append (x ∷ xs) ys = (let r = length-append xs ys in omega (arith, r))

number_at-zeros : (n i : ℕ) → number_at (zeros n) i ≡ pos 0
number_at-zeros zero i = refl
number_at-zeros (suc n) zero = refl
number_at-zeros (suc n) (suc i) = number_at-zeros n i

number_at-front : (xs ys : List ℤ) (j : ℕ) → j < length xs → number_at (xs ++ ys) j ≡ number_at xs j
number_at-front [] ys j h = absurd (omega (arith, h))
number_at-front (x ∷ xs) ys zero h = refl
number_at-front (x ∷ xs) ys (suc j) h = number_at-front xs ys j (omega (arith, h))

number_at-back : (xs ys : List ℤ) (n k j : ℕ) → length xs ≡ n → j ≡ n + k → number_at (xs ++ ys) j ≡ number_at ys k
number_at-back [] ys n k j h e = ap (number_at ys) (omega (arith, h, e))
number_at-back (x ∷ xs) ys n k zero h e = absurd (omega (arith, h, e))
number_at-back (x ∷ xs) ys n k (suc j) h e = number_at-back xs ys (length xs) k j refl (omega (arith, h, e))

unit_own : (n i : ℕ) → i < n → number_at (unit n i) i ≡ negsuc 0
unit_own zero i h = absurd (omega (arith, h))
unit_own (suc n) zero h = refl
unit_own (suc n) (suc i) h = unit_own n i (omega (arith, h))

unit_other : (n i j : ℕ) → i ≢ j → number_at (unit n i) j ≡ pos 0
unit_other zero i j h = refl
unit_other (suc n) zero zero h = absurd (h refl)
unit_other (suc n) zero (suc j) h = number_at-zeros n j
unit_other (suc n) (suc i) zero h = refl
unit_other (suc n) (suc i) (suc j) h = unit_other n i j (λ e. (h (ap suc e)))

length-unit : (n i : ℕ) → length (unit n i) ≡ n
length-unit n i = length-bumped (zeros n) i (negsuc 0) ∙ length-zeros n

-- numbers behind the constant, the auxiliary variable and n variables
behind : (n k j : ℕ) (a b : ℤ) (xs ys : List ℤ) → length xs ≡ n → j ≡ 2 + n + k → number_at (a ∷ b ∷ (xs ++ ys)) j ≡ number_at ys k
behind n k zero a b xs ys h e = absurd (omega (arith, e))
behind n k (suc zero) a b xs ys h e = absurd (omega (arith, e))
behind n k (suc (suc j)) a b xs ys h e = number_at-back xs ys n k j h (omega (arith, e))

-- an equation of the first tableau
record RowAt (n m : ℕ) (los : List ℤ) (i : ℕ) (q : Equation) : Type 0 where
  row : Form
  at : ℕ
  at_is : at ≡ i
  is : q ≡ equation 1 (2 + n + at) (row_numbers n m los at row)
  below : at < m

record BoundAt (n m i : ℕ) (q : Equation) : Type 0 where
  bound : Range
  at : ℕ
  at_is : i ≡ m + at
  is : q ≡ equation 1 (2 + n + m + at) (bound_numbers n m at bound)
  below : at < n

row_at : (n m : ℕ) (los : List ℤ) (from i : ℕ) (rows : List Form) (q : Equation) → from + length rows ≤ m → slice_get (row_equations n m los from rows) i ≡ Some q → RowAt n m los (from + i) q
row_at n m los from i [] q few h = absurd (cc)
row_at n m los from zero (r ∷ rs) q few h = record { row = r; at = from; at_is = omega arith; is = cc; below = omega (arith, few) }
row_at n m los from (suc i) (r ∷ rs) q few h =
    let o = row_at n m los (from + 1) i rs q (omega (arith, few)) h in
    record { row = o.row; at = o.at; at_is = (let e = o.at_is in omega (arith, e)); is = o.is; below = o.below }

bound_at : (n m from i : ℕ) (bs : List Range) (q : Equation) → from + length bs ≤ n → slice_get (bound_equations n m from bs) i ≡ Some q → BoundAt n m (m + (from + i)) q
bound_at n m from i [] q few h = absurd (cc)
bound_at n m from zero (b ∷ bs) q few h = record { bound = b; at = from; at_is = omega arith; is = cc; below = omega (arith, few) }
bound_at n m from (suc i) (b ∷ bs) q few h =
    let o = bound_at n m (from + 1) i bs q (omega (arith, few)) h in
    record { bound = o.bound; at = o.at; at_is = (let e = o.at_is in omega (arith, e)); is = o.is; below = o.below }

record Back (qs : List Equation) (n i : ℕ) (q : Equation) : Type 0 where
  at : ℕ
  at_is : i ≡ n + at
  there : slice_get qs at ≡ Some q

get-append : (ps qs : List Equation) (i : ℕ) (q : Equation) → slice_get (ps ++ qs) i ≡ Some q → (slice_get ps i ≡ Some q) ⊎ Back qs (length ps) i q
get-append [] qs i q h = inr (record { at = i; at_is = omega arith; there = h })
get-append (p ∷ ps) qs zero q h = inl h
get-append (p ∷ ps) qs (suc i) q h = further (get-append ps qs i q h)
  where
    further : (slice_get ps i ≡ Some q) ⊎ Back qs (length ps) i q → (slice_get (p ∷ ps) (suc i) ≡ Some q) ⊎ Back qs (length (p ∷ ps)) (suc i) q
    further (inl a) = inl a
    further (inr b) = inr (record { at = b.at; at_is = (let e = b.at_is in omega (arith, e)); there = b.there })

length-row_equations : (n m : ℕ) (los : List ℤ) (from : ℕ) (rows : List Form) → length (row_equations n m los from rows) ≡ length rows
length-row_equations n m los from [] = refl
length-row_equations n m los from (r ∷ rs) = ap suc (length-row_equations n m los (from + 1) rs)

which : (rows : List Form) (bounds : List Range) (i : ℕ) (q : Equation) → slice_get (first_tableau rows bounds) i ≡ Some q → RowAt (length bounds) (length rows) (lows_of bounds) i q ⊎ BoundAt (length bounds) (length rows) i q
which rows bounds i q h = by_part (get-append (row_equations n m los 0 rows) (bound_equations n m 0 bounds) i q h)
  where
    n : ℕ
    n = length bounds

    m : ℕ
    m = length rows

    los : List ℤ
    los = lows_of bounds

    by_part : (slice_get (row_equations (length bounds) (length rows) (lows_of bounds) 0 rows) i ≡ Some q) ⊎ Back (bound_equations (length bounds) (length rows) 0 bounds) (length (row_equations (length bounds) (length rows) (lows_of bounds) 0 rows)) i q → RowAt (length bounds) (length rows) (lows_of bounds) i q ⊎ BoundAt (length bounds) (length rows) i q
    by_part (inl a) =
        let o = row_at (length bounds) (length rows) (lows_of bounds) 0 i rows q (omega arith) a in
        inl (record { row = o.row; at = o.at; at_is = (let e = o.at_is in omega (arith, e)); is = o.is; below = o.below })
    by_part (inr b) =
        let o = bound_at (length bounds) (length rows) 0 b.at bounds q (omega arith) b.there in
        inr (record { bound = o.bound; at = o.at; at_is = (let e = o.at_is in let f = b.at_is in omega (arith, e, f, length-row_equations (length bounds) (length rows) (lows_of bounds) 0 rows)); is = o.is; below = o.below })

dense_length : (n : ℕ) (r : Form) → length (map neg_ℤ (dense n r.parts)) ≡ n
dense_length n r = length-negative (dense n r.parts) ∙ length-dense n r.parts

-- the numbers of a row and of a bound at the slacks
row_at_row : (n m i j : ℕ) (los : List ℤ) (r : Form) → j < m → number_at (row_numbers n m los i r) (2 + n + j) ≡ number_at (unit m i) j
row_at_row n m i j los r h =
    behind n j (2 + n + j) (constant (equation 1 0 (row_numbers n m los i r))) (pos 1) (map neg_ℤ (dense n r.parts)) (unit m i ++ zeros n) (dense_length n r) refl
    ∙ number_at-front (unit m i) (zeros n) j (subst (λ (k : ℕ). j < k) (sym (length-unit m i)) h)

row_at_bound : (n m i j : ℕ) (los : List ℤ) (r : Form) → number_at (row_numbers n m los i r) (2 + n + m + j) ≡ pos 0
row_at_bound n m i j los r =
    behind n (m + j) (2 + n + m + j) (constant (equation 1 0 (row_numbers n m los i r))) (pos 1) (map neg_ℤ (dense n r.parts)) (unit m i ++ zeros n) (dense_length n r) (omega arith)
    ∙ number_at-back (unit m i) (zeros n) m j (m + j) (length-unit m i) refl ∙ number_at-zeros n j

bound_at_row : (n m i j : ℕ) (b : Range) → j < m → number_at (bound_numbers n m i b) (2 + n + j) ≡ pos 0
bound_at_row n m i j b h =
    behind n j (2 + n + j) (b.hi -ℤ b.lo) (pos 1) (unit n i) (zeros m ++ unit n i) (length-unit n i) refl
    ∙ number_at-front (zeros m) (unit n i) j (subst (λ (k : ℕ). j < k) (sym (length-zeros m)) h) ∙ number_at-zeros m j

bound_at_bound : (n m i j : ℕ) (b : Range) → number_at (bound_numbers n m i b) (2 + n + m + j) ≡ number_at (unit n i) j
bound_at_bound n m i j b =
    behind n (m + j) (2 + n + m + j) (b.hi -ℤ b.lo) (pos 1) (unit n i) (zeros m ++ unit n i) (length-unit n i) (omega arith)
    ∙ number_at-back (zeros m) (unit n i) m j (m + j) (length-zeros m) refl

row_is : (n m i : ℕ) (los : List ℤ) (r : Form) → i < m → IsEquation (2 + (n + (m + n))) (equation 1 (2 + n + i) (row_numbers n m los i r))
row_is n m i los r h = record {
  length_is = (let a = length-append (map neg_ℤ (dense n r.parts)) (unit m i ++ zeros n) in omega (arith, a, length-append (unit m i) (zeros n), dense_length n r, length-unit m i, length-zeros n));
  positive = omega arith;
  own = row_at_row n m i i los r h ∙ unit_own m i h;
  basic_above = omega arith;
  basic_below = omega (arith, h);
}

bound_is : (n m i : ℕ) (b : Range) → i < n → IsEquation (2 + (n + (m + n))) (equation 1 (2 + n + m + i) (bound_numbers n m i b))
bound_is n m i b h = record {
  length_is = (let a = length-append (unit n i) (zeros m ++ unit n i) in omega (arith, a, length-append (zeros m) (unit n i), length-unit n i, length-zeros m));
  positive = omega arith;
  own = bound_at_bound n m i i b ∙ unit_own n i h;
  basic_above = omega arith;
  basic_below = omega (arith, h);
}

pub first_is_tableau_lem : FirstIsTableau
first_is_tableau_lem rows bounds = record {
  each = λ i q h. each_of i q (which rows bounds i q h);
  apart = λ i j p q hp hq ne. apart_of i j p q ne (which rows bounds i p hp) (which rows bounds j q hq);
}
  where
    each_of : (i : ℕ) (q : Equation) → RowAt (length bounds) (length rows) (lows_of bounds) i q ⊎ BoundAt (length bounds) (length rows) i q → IsEquation (2 + (length bounds + (length rows + length bounds))) q
    each_of i q (inl a) = subst (λ (x : Equation). IsEquation (2 + (length bounds + (length rows + length bounds))) x) (sym a.is) (row_is (length bounds) (length rows) a.at (lows_of bounds) a.row a.below)
    each_of i q (inr b) = subst (λ (x : Equation). IsEquation (2 + (length bounds + (length rows + length bounds))) x) (sym b.is) (bound_is (length bounds) (length rows) b.at b.bound b.below)

    apart_of : (i j : ℕ) (p q : Equation) → i ≢ j → RowAt (length bounds) (length rows) (lows_of bounds) i p ⊎ BoundAt (length bounds) (length rows) i p → RowAt (length bounds) (length rows) (lows_of bounds) j q ⊎ BoundAt (length bounds) (length rows) j q → number_at p.numbers q.basic ≡ pos 0
    apart_of i j p q ne (inl a) (inl b) =
        ap (λ (x : Equation). number_at x.numbers q.basic) a.is ∙ ap (λ (x : Equation). number_at (row_numbers (length bounds) (length rows) (lows_of bounds) a.at a.row) x.basic) b.is
        ∙ row_at_row (length bounds) (length rows) a.at b.at (lows_of bounds) a.row b.below ∙ unit_other (length rows) a.at b.at (λ e. (ne (sym a.at_is ∙ e ∙ b.at_is)))
    apart_of i j p q ne (inl a) (inr b) =
        ap (λ (x : Equation). number_at x.numbers q.basic) a.is ∙ ap (λ (x : Equation). number_at (row_numbers (length bounds) (length rows) (lows_of bounds) a.at a.row) x.basic) b.is
        ∙ row_at_bound (length bounds) (length rows) a.at b.at (lows_of bounds) a.row
    apart_of i j p q ne (inr a) (inl b) =
        ap (λ (x : Equation). number_at x.numbers q.basic) a.is ∙ ap (λ (x : Equation). number_at (bound_numbers (length bounds) (length rows) a.at a.bound) x.basic) b.is
        ∙ bound_at_row (length bounds) (length rows) a.at b.at a.bound b.below
    apart_of i j p q ne (inr a) (inr b) =
        ap (λ (x : Equation). number_at x.numbers q.basic) a.is ∙ ap (λ (x : Equation). number_at (bound_numbers (length bounds) (length rows) a.at a.bound) x.basic) b.is
        ∙ bound_at_bound (length bounds) (length rows) a.at b.at a.bound ∙ unit_other (length bounds) a.at b.at (λ e. (ne (a.at_is ∙ ap (λ (k : ℕ). length rows + k) e ∙ sym b.at_is)))

-- each equation of the first tableau stands over 1 and has the auxiliary variable once; its basic variable is a slack
pub first_ones : (rows : List Form) (bounds : List Range) (i : ℕ) (q : Equation) → slice_get (first_tableau rows bounds) i ≡ Some q → (q.below ≡ 1) × (number_at q.numbers 1 ≡ pos 1)
first_ones rows bounds i q h = by_part (which rows bounds i q h)
  where
    by_part : RowAt (length bounds) (length rows) (lows_of bounds) i q ⊎ BoundAt (length bounds) (length rows) i q → (q.below ≡ 1) × (number_at q.numbers 1 ≡ pos 1)
    by_part (inl a) = (ap (λ (x : Equation). x.below) a.is, ap (λ (x : Equation). number_at x.numbers 1) a.is)
    by_part (inr b) = (ap (λ (x : Equation). x.below) b.is, ap (λ (x : Equation). number_at x.numbers 1) b.is)

pub first_slacks : (rows : List Form) (bounds : List Range) (i : ℕ) (q : Equation) → slice_get (first_tableau rows bounds) i ≡ Some q → 2 ≤ q.basic
first_slacks rows bounds i q h = by_part (which rows bounds i q h)
  where
    behind_two : (a b : ℕ) → a ≡ 2 + length bounds + b → 2 ≤ a
    behind_two a b e = omega (arith, e)

    further : (a b : ℕ) → a ≡ 2 + length bounds + length rows + b → 2 ≤ a
    further a b e = omega (arith, e)

    by_part : RowAt (length bounds) (length rows) (lows_of bounds) i q ⊎ BoundAt (length bounds) (length rows) i q → 2 ≤ q.basic
    by_part (inl a) = behind_two q.basic a.at (ap (λ (x : Equation). x.basic) a.is)
    by_part (inr b) = further q.basic b.at (ap (λ (x : Equation). x.basic) b.is)

-- ---- the first pivot

solved_one : (f : ℤ) (ns : List ℤ) → f ≡ pos 1 → (number_at (solved_by 1 f ns).numbers 0 ≡ neg_ℤ (number_at ns 0)) × ((solved_by 1 f ns).below ≡ 1)
solved_one (pos n) ns h = (number_at-negative ns 0, (omega (arith, ints, h)))
solved_one (negsuc n) ns h = absurd (omega (arith, ints, h))

first_constant : (d : ℕ) (f c cs cq : ℤ) → d ≡ 1 → f ≡ pos 1 → cs ≡ neg_ℤ cq → cq ≤ℤ c → pos 0 ≤ℤ (pos d *ℤ c +ℤ f *ℤ cs)
first_constant d f c cs cq h k e le = rw (h, k, e) (omega (arith, ints, le))

pub first_pivot_is_feasible_lem : FirstPivotIsFeasible
first_pivot_is_feasible_lem n place q qs t ones is below least =
    (record { each = λ i r h. each_of i r (get-exchanged (solved 1 q) 1 place i r qs h) }, above)
  where
    so : (number_at (solved 1 q).numbers 0 ≡ neg_ℤ (number_at q.numbers 0)) × ((solved 1 q).below ≡ 1)
    so = solved_one (number_at q.numbers 1) q.numbers (ones place q is).1

    above : pos 0 <ℤ constant (solved 1 q)
    above = subst (λ (x : ℤ). pos 0 <ℤ x) (sym so.0) (omega (arith, ints, below))

    each_of : (i : ℕ) (r : Equation) → ((i ≡ place) × (r ≡ solved 1 q)) ⊎ ((i ≢ place) × Others (solved 1 q) 1 qs i r) → pos 0 ≤ℤ constant r
    each_of i r (inl a) = subst (λ (x : Equation). pos 0 ≤ℤ constant x) (sym a.1) (omega (arith, ints, above))
    each_of i r (inr b) =
        let p = b.1.was in
        let same : length p.numbers ≡ length (solved 1 q).numbers = (t.each i p b.1.there).length_is ∙ sym (solved_length 1 (number_at q.numbers 1) q.numbers ∙ (t.each place q is).length_is) in
        subst (λ (x : Equation). pos 0 ≤ℤ constant x) (sym b.1.is)
        (subst (λ (x : ℤ). pos 0 ≤ℤ x) (sym (eliminated_at (solved 1 q) 1 0 p same))
        (first_constant (solved 1 q).below (number_at p.numbers 1) (constant p) (constant (solved 1 q)) (constant q) so.1 (ones i p b.1.there).1 so.0 (least i p b.1.there)))
