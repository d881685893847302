-- The point of a tableau.
use Rattle.std.proofs.Common.{◌≡◌, ◌≢◌, ℕ, zero, suc, ◌+◌, ◌-◌, ◌*◌, ◌<◌, ◌≤◌, nat_lt, Bool, true, false, ℤ, pos, negsuc, neg_ℤ, ◌+ℤ◌, ◌-ℤ◌, ◌*ℤ◌, ◌≤ℤ◌, List, [], ◌∷◌, ◌++◌, length, map, slice_get, Some, if◌then◌else◌, ap, sym, ◌∙◌, refl, subst, arith}
use Rattle.std.proofs.lemmas.Int.{ints}
use Rattle.std.proofs.lemmas.Bool.Decides.{nat_tests}
use Rattle.std.specs.List.{list_all}
use Rattle.std.proofs.Math.IntN.{*ℤ_comm, *ℤ-zero, zero-*ℤ, pos-*ℤ-pos}
use Rattle.lucy_clauses.proofs.Products.{over_sum, times_sum, regroup}
use Rattle.lucy_clauses.proofs.Mapping.{two_tests}
use Rattle.lucy_clauses.specs.declared.parts.Part.{Part}
use Rattle.lucy_clauses.specs.declared.formulas.Range.{Range}
use Rattle.lucy_clauses.specs.Sums.{Form, number_at, sum_at}
use Rattle.lucy_clauses.specs.Formulas.{names_below}
use Rattle.lucy_simplex.specs.Systems.{dot, lows_of, NoneNegative, RowsHold, BoundsHold}
use Rattle.lucy_simplex.specs.Tableaus.{Equation, IsSolution, IsTableau, IsFeasible, constant}
use Rattle.lucy_simplex.specs.First.{bumped, zeros, unit, dense, row_numbers, bound_numbers, row_equations, bound_equations, first_tableau}
use Rattle.lucy_simplex.specs.Points.{AreShares, moved, moved_all}
use Rattle.lucy_simplex.proofs.Statements.{SharesExist, BasicPointSatisfies}
use Rattle.lucy_simplex.proofs.Dots.{dot-negative, neg_times}
use Rattle.lucy_simplex.proofs.Farkas.{dot-with_zeros, length-mapped}
use Rattle.lucy_simplex.proofs.Firsts.{dot-append, dot-unit, dot-zeros, dot-dense, length-dense, length-zeros, length-negative, length-bumped}

some_product : (a b : ℕ) → 0 < a → 0 < b → 0 < a * b
some_product a b p q = grind arith

swapped : (a b c : ℤ) → a *ℤ (b *ℤ c) ≡ b *ℤ (a *ℤ c)
swapped a b c = sym (regroup a b c) ∙ ap (λ (x : ℤ). x *ℤ c) (*ℤ_comm a b) ∙ regroup b a c

-- ---- a common denominator

scaled_shares : (d w : ℕ) (qs : List Equation) (ys : List ℤ) → AreShares w qs ys → AreShares (d * w) qs (map (λ (y : ℤ). pos d *ℤ y) ys)
scaled_shares d w [] [] h = tt
scaled_shares d w [] (y ∷ ys) h = absurd h
scaled_shares d w (q ∷ qs) [] h = absurd h
scaled_shares d w (q ∷ qs) (y ∷ ys) h = (
  swapped (pos q.below) (pos d) y ∙ ap (λ (x : ℤ). pos d *ℤ x) h.0 ∙ swapped (pos d) (constant q) (pos w) ∙ ap (λ (x : ℤ). constant q *ℤ x) (pos-*ℤ-pos d w),
  scaled_shares d w qs ys h.1,
)

tail_tableau : (n : ℕ) (q : Equation) (qs : List Equation) → IsTableau n (q ∷ qs) → IsTableau n qs
tail_tableau n q qs t = record {
  each = λ i p h. t.each (suc i) p h;
  apart = λ i j p r hp hr ne. t.apart (suc i) (suc j) p r hp hr (λ e. (ne (omega (arith, e))));
}

pub shares_exist_lem : SharesExist
shares_exist_lem n [] t = record { common = 1; positive = omega arith; tops = []; are = tt }
shares_exist_lem n (q ∷ qs) t =
    let r = shares_exist_lem n qs (tail_tableau n q qs t) in
    record {
      common = q.below * r.common;
      positive = some_product q.below r.common (t.each 0 q refl).positive r.positive;
      tops = (constant q *ℤ pos r.common) ∷ map (λ (y : ℤ). pos q.below *ℤ y) r.tops;
      are = (swapped (pos q.below) (constant q) (pos r.common) ∙ ap (λ (x : ℤ). constant q *ℤ x) (pos-*ℤ-pos q.below r.common), scaled_shares q.below r.common qs r.tops r.are);
    }

-- ---- the values of all places

values : ℕ → ℤ → List Equation → List ℤ → List ℤ
values k w [] ys = w ∷ zeros k
values k w (q ∷ qs) [] = w ∷ zeros k
values k w (q ∷ qs) (y ∷ ys) = bumped (values k w qs ys) q.basic y

length-values : (k : ℕ) (w : ℤ) (qs : List Equation) (ys : List ℤ) → length (values k w qs ys) ≡ suc k
unfolding values
length-values k w [] ys = ap suc (length-zeros k)
length-values k w (q ∷ qs) [] = ap suc (length-zeros k)
length-values k w (q ∷ qs) (y ∷ ys) = length-bumped (values k w qs ys) q.basic y ∙ length-values k w qs ys

dot-bumped_right : (xs ys : List ℤ) (i : ℕ) (k : ℤ) → i < length ys → dot xs (bumped ys i k) ≡ dot xs ys +ℤ number_at xs i *ℤ k
dot-bumped_right [] ys i k h = omega (arith, ints, zero-*ℤ k)
dot-bumped_right (x ∷ xs) [] i k h = absurd (omega (arith, h))
dot-bumped_right (x ∷ xs) (y ∷ ys) zero k h = omega (arith, ints, times_sum x y k)
dot-bumped_right (x ∷ xs) (y ∷ ys) (suc i) k h = omega (arith, ints, dot-bumped_right xs ys i k (omega (arith, h)))

dot_plain : (xs : List ℤ) (w : ℤ) (k : ℕ) → dot xs (w ∷ zeros k) ≡ number_at xs 0 *ℤ w
dot_plain [] w k = sym (zero-*ℤ w)
dot_plain (x ∷ xs) w k = omega (arith, ints, dot-with_zeros xs k)

-- an equation that has 0 at each basic variable
zero_along : (k : ℕ) (w : ℤ) (ns : List ℤ) (qs : List Equation) (ys : List ℤ) → ((i : ℕ) (q : Equation) → slice_get qs i ≡ Some q → (number_at ns q.basic ≡ pos 0) × (q.basic < suc k)) → dot ns (values k w qs ys) ≡ number_at ns 0 *ℤ w
unfolding values
zero_along k w ns [] ys h = dot_plain ns w k
zero_along k w ns (q ∷ qs) [] h = dot_plain ns w k
zero_along k w ns (q ∷ qs) (y ∷ ys) h =
    let here = h 0 q refl in
    omega (
      arith,
      ints,
      dot-bumped_right ns (values k w qs ys) q.basic y (subst (λ (n : ℕ). q.basic < n) (sym (length-values k w qs ys)) here.1),
      ap (λ (x : ℤ). x *ℤ y) here.0,
      zero-*ℤ y,
      zero_along k w ns qs ys (λ i r e. h (suc i) r e),
    )

-- each equation holds
own_value : (k w i : ℕ) (p : Equation) (qs : List Equation) (ys : List ℤ) → IsTableau (suc k) qs → AreShares w qs ys → slice_get qs i ≡ Some p → dot p.numbers (values k (pos w) qs ys) ≡ pos 0
unfolding values
own_value k w i p [] ys t s is = absurd (cc)
own_value k w i p (q ∷ qs) [] t s is = absurd s
own_value k w zero p (q ∷ qs) (y ∷ ys) t s is =
    let same : q ≡ p = cc in
    let here = t.each 0 q refl in
    subst (λ (r : Equation). dot r.numbers (bumped (values k (pos w) qs ys) q.basic y) ≡ pos 0) same
    (omega (
      arith,
      ints,
      dot-bumped_right q.numbers (values k (pos w) qs ys) q.basic y (subst (λ (n : ℕ). q.basic < n) (sym (length-values k (pos w) qs ys)) here.basic_below),
      ap (λ (x : ℤ). x *ℤ y) here.own,
      neg_times (pos q.below) y,
      s.0,
      zero_along k (pos w) q.numbers qs ys (λ j r e. (t.apart 0 (suc j) q r refl e (λ z. (omega (arith, z))), (t.each (suc j) r e).basic_below)),
    ))
own_value k w (suc i) p (q ∷ qs) (y ∷ ys) t s is =
    let here = t.each 0 q refl in
    omega (
      arith,
      ints,
      dot-bumped_right p.numbers (values k (pos w) qs ys) q.basic y (subst (λ (n : ℕ). q.basic < n) (sym (length-values k (pos w) qs ys)) here.basic_below),
      ap (λ (x : ℤ). x *ℤ y) (t.apart (suc i) 0 p q is refl (λ z. (omega (arith, z)))),
      zero-*ℤ y,
      own_value k w i p qs ys (tail_tableau (suc k) q qs t) s.1 is,
    )

solution_from : (v : List ℤ) (qs : List Equation) → ((i : ℕ) (p : Equation) → slice_get qs i ≡ Some p → dot p.numbers v ≡ pos 0) → IsSolution v qs
solution_from v [] h = tt
solution_from v (q ∷ qs) h = (h 0 q refl, solution_from v qs (λ i p e. h (suc i) p e))

-- ---- signs and places

share_sign : (d w : ℕ) (y c : ℤ) → 0 < d → pos 0 ≤ℤ c → pos d *ℤ y ≡ c *ℤ pos w → pos 0 ≤ℤ y
share_sign d w (pos n) c some h e = omega (arith, ints)
share_sign d w (negsuc n) (pos m) some h e = absurd (omega (arith, ints, e, some_product d (suc n) some (omega arith), pos-*ℤ-pos m w))
share_sign d w (negsuc n) (negsuc m) some h e = absurd (omega (arith, ints))

none_negative-bumped : (xs : List ℤ) (i : ℕ) (k : ℤ) → pos 0 ≤ℤ k → NoneNegative xs → NoneNegative (bumped xs i k)
none_negative-bumped [] i k h all = tt
none_negative-bumped (x ∷ xs) zero k h all = (let a = all.0 in omega (arith, ints, a, h), all.1)
none_negative-bumped (x ∷ xs) (suc i) k h all = (all.0, none_negative-bumped xs i k h all.1)

none_negative-zeros : (k : ℕ) → NoneNegative (zeros k)
none_negative-zeros zero = tt
none_negative-zeros (suc k) = (omega (arith, ints), none_negative-zeros k)

none_negative-values : (n k w : ℕ) (qs : List Equation) (ys : List ℤ) → IsTableau n qs → IsFeasible qs → AreShares w qs ys → NoneNegative (values k (pos w) qs ys)
unfolding values
none_negative-values n k w [] ys t f s = (omega (arith, ints), none_negative-zeros k)
none_negative-values n k w (q ∷ qs) [] t f s = absurd s
none_negative-values n k w (q ∷ qs) (y ∷ ys) t f s =
    none_negative-bumped (values k (pos w) qs ys) q.basic y (share_sign q.below w y (constant q) (t.each 0 q refl).positive (f.each 0 q refl) s.0)
    (none_negative-values n k w qs ys (tail_tableau n q qs t) (record { each = λ i p h. f.each (suc i) p h }) s.1)

none_negative_at : (xs : List ℤ) (i : ℕ) → NoneNegative xs → pos 0 ≤ℤ number_at xs i
none_negative_at [] i h = omega (arith, ints)
none_negative_at (x ∷ xs) zero h = h.0
none_negative_at (x ∷ xs) (suc i) h = none_negative_at xs i h.1

none_negative-append : (xs ys : List ℤ) → NoneNegative (xs ++ ys) → NoneNegative xs × NoneNegative ys
none_negative-append [] ys h = (tt, h)
none_negative-append (x ∷ xs) ys h = let r = none_negative-append xs ys h.1 in ((h.0, r.0), r.1)

-- a number at one place, 0 at the others
unfoldable pub spike : ℕ → ℤ → ℕ → ℤ
spike zero k zero = k
spike zero k (suc j) = pos 0
spike (suc i) k zero = pos 0
spike (suc i) k (suc j) = spike i k j

pub number_at-bumped : (xs : List ℤ) (i : ℕ) (k : ℤ) (j : ℕ) → j < length xs → number_at (bumped xs i k) j ≡ number_at xs j +ℤ spike i k j
unfolding spike
number_at-bumped [] i k j h = absurd (omega (arith, h))
number_at-bumped (x ∷ xs) zero k zero h = refl
number_at-bumped (x ∷ xs) zero k (suc j) h = omega (arith, ints)
number_at-bumped (x ∷ xs) (suc i) k zero h = omega (arith, ints)
number_at-bumped (x ∷ xs) (suc i) k (suc j) h = number_at-bumped xs i k j (omega (arith, h))

pub spike_other : (i : ℕ) (k : ℤ) (j : ℕ) → i ≢ j → spike i k j ≡ pos 0
unfolding spike
spike_other zero k zero h = absurd (h refl)
spike_other zero k (suc j) h = refl
spike_other (suc i) k zero h = refl
spike_other (suc i) k (suc j) h = spike_other i k j (λ e. (h (ap suc e)))

-- the shares that stand at a place
share_at : List Equation → List ℤ → ℕ → ℤ
share_at [] ys j = pos 0
share_at (q ∷ qs) [] j = pos 0
share_at (q ∷ qs) (y ∷ ys) j = spike q.basic y j +ℤ share_at qs ys j

share_none : (qs : List Equation) (ys : List ℤ) (j : ℕ) → ((i : ℕ) (q : Equation) → slice_get qs i ≡ Some q → q.basic ≢ j) → share_at qs ys j ≡ pos 0
unfolding share_at
share_none [] ys j h = refl
share_none (q ∷ qs) [] j h = refl
share_none (q ∷ qs) (y ∷ ys) j h = omega (arith, ints, spike_other q.basic y j (h 0 q refl), share_none qs ys j (λ i r e. h (suc i) r e))

number_at-values : (k : ℕ) (w : ℤ) (qs : List Equation) (ys : List ℤ) (j : ℕ) → j < suc k → number_at (values k w qs ys) j ≡ number_at (w ∷ zeros k) j +ℤ share_at qs ys j
unfolding values share_at
number_at-values k w [] ys j h = omega (arith, ints)
number_at-values k w (q ∷ qs) [] j h = omega (arith, ints)
number_at-values k w (q ∷ qs) (y ∷ ys) j h =
    omega (arith, ints, number_at-bumped (values k w qs ys) q.basic y j (subst (λ (n : ℕ). j < n) (sym (length-values k w qs ys)) h), number_at-values k w qs ys j h)

moved_at : (n : ℕ) (q : Equation) (y : ℤ) (xs : List ℤ) (j : ℕ) → j < length xs → number_at (moved n q y xs) j ≡ number_at xs j +ℤ spike q.basic y (suc (suc j))
unfolding spike
moved_at n q y xs j h = by_place q.basic (nat_lt q.basic 2) refl
  where
    by_place : (b : ℕ) (t : Bool) → nat_lt b 2 ≡ t → number_at (if t then xs else bumped xs (b - 2) y) j ≡ number_at xs j +ℤ spike b y (suc (suc j))
    by_place zero true e = omega (arith, ints)
    by_place zero false e = absurd (cc)
    by_place (suc zero) true e = omega (arith, ints)
    by_place (suc zero) false e = absurd (cc)
    by_place (suc (suc b)) true e = absurd (grind (arith, nat_tests))
    by_place (suc (suc b)) false e =
        let same : suc (suc b) - 2 ≡ b = omega arith in
        ap (λ (i : ℕ). number_at (bumped xs i y) j) same ∙ number_at-bumped xs b y j h

length-moved : (n : ℕ) (q : Equation) (y : ℤ) (xs : List ℤ) → length (moved n q y xs) ≡ length xs
length-moved n q y xs = by_test (nat_lt q.basic 2)
  where
    by_test : (t : Bool) → length (if t then xs else bumped xs (q.basic - 2) y) ≡ length xs
    by_test true = refl
    by_test false = length-bumped xs (q.basic - 2) y

number_at-moved_all : (n : ℕ) (qs : List Equation) (ys xs : List ℤ) (j : ℕ) → j < length xs → number_at (moved_all n qs ys xs) j ≡ number_at xs j +ℤ share_at qs ys (suc (suc j))
unfolding share_at
number_at-moved_all n [] ys xs j h = omega (arith, ints)
number_at-moved_all n (q ∷ qs) [] xs j h = omega (arith, ints)
number_at-moved_all n (q ∷ qs) (y ∷ ys) xs j h =
    omega (arith, ints, number_at-moved_all n qs ys (moved n q y xs) j (subst (λ (k : ℕ). j < k) (sym (length-moved n q y xs)) h), moved_at n q y xs j h)

length-moved_all : (n : ℕ) (qs : List Equation) (ys xs : List ℤ) → length (moved_all n qs ys xs) ≡ length xs
length-moved_all n [] ys xs = refl
length-moved_all n (q ∷ qs) [] xs = refl
length-moved_all n (q ∷ qs) (y ∷ ys) xs = length-moved_all n qs ys (moved n q y xs) ∙ length-moved n q y xs

-- ---- what a solution that is not negative says of rows and bounds

record Split (k : ℕ) (xs : List ℤ) : Type 0 where
  front : List ℤ
  back : List ℤ
  is : xs ≡ front ++ back
  front_length : length front ≡ k
  back_length : k + length back ≡ length xs

split : (k : ℕ) (xs : List ℤ) → k ≤ length xs → Split k xs
split zero xs h = record { front = []; back = xs; is = refl; front_length = refl; back_length = omega arith }
split (suc k) [] h = absurd (omega (arith, h))
split (suc k) (x ∷ xs) h =
    let r = split k xs (omega (arith, h)) in
    record { front = x ∷ r.front; back = r.back; is = ap (λ (ys : List ℤ). x ∷ ys) r.is; front_length = ap suc r.front_length; back_length = (let b = r.back_length in omega (arith, b)) }

-- the numerators are the values and w times the lower bounds
Shifts : ℕ → ℤ → List ℤ → List ℤ → List ℤ → Type 0
Shifts n w xs los tops = (j : ℕ) → j < n → number_at tops j ≡ number_at xs j +ℤ w *ℤ number_at los j

sum_at-shifted : (n : ℕ) (w : ℤ) (xs los tops : List ℤ) (ps : List Part) → names_below n ps ≡ true → Shifts n w xs los tops → sum_at ps tops ≡ sum_at ps xs +ℤ w *ℤ sum_at ps los
unfolding Shifts
sum_at-shifted n w xs los tops [] h s = omega (arith, ints, *ℤ-zero w)
sum_at-shifted n w xs los tops (p ∷ ps) h s =
    let t = two_tests (nat_lt p.variable n) (names_below n ps) h in
    let x = number_at xs p.variable in
    let l = number_at los p.variable in
    omega (arith, ints, sum_at-shifted n w xs los tops ps t.1 s, ap (λ (y : ℤ). p.by *ℤ y) (s p.variable (below p.variable n t.0)), times_sum p.by x (w *ℤ l), swapped p.by w l, times_sum w (p.by *ℤ l) (sum_at ps los))
  where
    below : (a b : ℕ) → nat_lt a b ≡ true → a < b
    below a b e = grind (arith, nat_tests)

minus_times : (x y z : ℤ) → (x -ℤ y) *ℤ z ≡ x *ℤ z -ℤ y *ℤ z
minus_times x y z =
    let back : (x -ℤ y) +ℤ y ≡ x = omega (arith, ints) in
    omega (arith, ints, over_sum (x -ℤ y) y z, ap (λ (w : ℤ). w *ℤ z) back)

row_holds : (n m i : ℕ) (w : ℤ) (los xs ss ts tops : List ℤ) (r : Form) → length xs ≡ n → length ss ≡ m → i < m → NoneNegative ss → names_below n r.parts ≡ true → Shifts n w xs los tops
    → dot (row_numbers n m los i r) (w ∷ pos 0 ∷ (xs ++ (ss ++ ts))) ≡ pos 0 → sum_at r.parts tops ≤ℤ (r.bound *ℤ w)
row_holds n m i w los xs ss ts tops r hx hs below signs names shifts is =
    let left : length (map neg_ℤ (dense n r.parts)) ≡ length xs = length-negative (dense n r.parts) ∙ length-dense n r.parts ∙ sym hx in
    let middle : length (unit m i) ≡ length ss = length-bumped (zeros m) i (negsuc 0) ∙ length-zeros m ∙ sym hs in
    omega (
      arith,
      ints,
      is,
      dot-append (map neg_ℤ (dense n r.parts)) xs (unit m i ++ zeros n) (ss ++ ts) left,
      dot-append (unit m i) ss (zeros n) ts middle,
      dot-negative (dense n r.parts) xs,
      dot-dense n r.parts xs names,
      dot-unit m i ss below,
      dot-zeros n ts,
      none_negative_at ss i signs,
      sum_at-shifted n w xs los tops r.parts names shifts,
      minus_times r.bound (sum_at r.parts los) w,
      *ℤ_comm w (sum_at r.parts los),
    )

rows_hold : (n m i w : ℕ) (los xs ss ts tops : List ℤ) (rows : List Form) → length xs ≡ n → length ss ≡ m → i + length rows ≤ m → NoneNegative ss → list_all (λ (r : Form). names_below n r.parts) rows ≡ true → Shifts n (pos w) xs los tops
    → IsSolution (pos w ∷ pos 0 ∷ (xs ++ (ss ++ ts))) (row_equations n m los i rows) → RowsHold w rows tops
rows_hold n m i w los xs ss ts tops [] hx hs few signs names shifts all = tt
rows_hold n m i w los xs ss ts tops (r ∷ rs) hx hs few signs names shifts all =
    let t = two_tests (names_below n r.parts) (list_all (λ (r : Form). names_below n r.parts) rs) names in (
      row_holds n m i (pos w) los xs ss ts tops r hx hs (omega (arith, few)) signs t.0 shifts all.0,
      rows_hold n m (i + 1) w los xs ss ts tops rs hx hs (omega (arith, few)) signs t.1 shifts all.1,
    )

bound_holds : (n m j : ℕ) (w : ℤ) (xs ss ts : List ℤ) (b : Range) (top : ℤ) → length xs ≡ n → length ss ≡ m → j < n → NoneNegative xs → NoneNegative ts → top ≡ number_at xs j +ℤ w *ℤ b.lo
    → dot (bound_numbers n m j b) (w ∷ pos 0 ∷ (xs ++ (ss ++ ts))) ≡ pos 0 → ((b.lo *ℤ w) ≤ℤ top) × (top ≤ℤ (b.hi *ℤ w))
bound_holds n m j w xs ss ts b top hx hs below sx st is all =
    let left : length (unit n j) ≡ length xs = length-bumped (zeros n) j (negsuc 0) ∙ length-zeros n ∙ sym hx in
    let middle : length (zeros m) ≡ length ss = length-zeros m ∙ sym hs in
    let sum = dot-append (unit n j) xs (zeros m ++ unit n j) (ss ++ ts) left in
    let rest = dot-append (zeros m) ss (unit n j) ts middle in (
      omega (arith, ints, is, none_negative_at xs j sx, *ℤ_comm w b.lo),
      omega (arith, ints, is, all, sum, rest, dot-unit n j xs below, dot-unit n j ts below, dot-zeros m ss, none_negative_at ts j st, minus_times b.hi b.lo w, *ℤ_comm w b.lo),
    )

bounds_hold : (n m j w : ℕ) (xs ss ts tops : List ℤ) (bs : List Range) → length xs ≡ n → length ss ≡ m → j + length bs ≤ n → NoneNegative xs → NoneNegative ts → length tops ≡ length bs
    → ((k : ℕ) → k < length bs → number_at tops k ≡ number_at xs (k + j) +ℤ pos w *ℤ number_at (lows_of bs) k)
    → IsSolution (pos w ∷ pos 0 ∷ (xs ++ (ss ++ ts))) (bound_equations n m j bs) → BoundsHold w bs tops
bounds_hold n m j w xs ss ts [] [] hx hs few sx st count each all = tt
bounds_hold n m j w xs ss ts (t ∷ tops) [] hx hs few sx st count each all = absurd (omega (arith, count))
bounds_hold n m j w xs ss ts [] (b ∷ bs) hx hs few sx st count each all = absurd (omega (arith, count))
bounds_hold n m j w xs ss ts (t ∷ tops) (b ∷ bs) hx hs few sx st count each all =
    let zero_is : 0 + j ≡ j = omega arith in
    let here = bound_holds n m j (pos w) xs ss ts b t hx hs (omega (arith, few)) sx st (each 0 (omega arith) ∙ ap (λ (i : ℕ). number_at xs i +ℤ pos w *ℤ b.lo) zero_is) all.0 in (
      here.0,
      here.1,
      bounds_hold n m (j + 1) w xs ss ts tops bs hx hs (omega (arith, few)) sx st (omega (arith, count))
          (λ k h. (let e : suc k + j ≡ k + (j + 1) = omega arith in each (suc k) (omega arith) ∙ ap (λ (i : ℕ). number_at xs i +ℤ pos w *ℤ number_at (lows_of bs) k) e)) all.1,
    )

solution-split : (v : List ℤ) (ps qs : List Equation) → IsSolution v (ps ++ qs) → IsSolution v ps × IsSolution v qs
solution-split v [] qs h = (tt, h)
solution-split v (p ∷ ps) qs h = let r = solution-split v ps qs h.1 in ((h.0, r.0), r.1)

-- a solution of the first tableau with nothing below 0 and no auxiliary variable
from_values : (rows : List Form) (bounds : List Range) (w : ℕ) (xs ss ts tops : List ℤ) → list_all (λ (r : Form). names_below (length bounds) r.parts) rows ≡ true
    → length xs ≡ length bounds → length ss ≡ length rows → length tops ≡ length bounds → NoneNegative xs → NoneNegative ss → NoneNegative ts → Shifts (length bounds) (pos w) xs (lows_of bounds) tops
    → IsSolution (pos w ∷ pos 0 ∷ (xs ++ (ss ++ ts))) (first_tableau rows bounds) → RowsHold w rows tops × BoundsHold w bounds tops
unfolding Shifts
from_values rows bounds w xs ss ts tops names hx hs ht sx ss_sign st shifts all =
    let n = length bounds in
    let m = length rows in
    let parts = solution-split (pos w ∷ pos 0 ∷ (xs ++ (ss ++ ts))) (row_equations n m (lows_of bounds) 0 rows) (bound_equations n m 0 bounds) all in (
      rows_hold n m 0 w (lows_of bounds) xs ss ts tops rows hx hs (omega arith) ss_sign names shifts parts.0,
      bounds_hold n m 0 w xs ss ts tops bounds hx hs (omega arith) sx st ht
          (λ k h. (let e : k ≡ k + 0 = omega arith in shifts k h ∙ ap (λ (i : ℕ). number_at xs i +ℤ pos w *ℤ number_at (lows_of bounds) k) e)) parts.1,
    )

pub number_at-front : (xs ys : List ℤ) (j : ℕ) → j < length xs → number_at (xs ++ ys) j ≡ number_at xs j
number_at-front [] ys j h = absurd (omega (arith, h))
number_at-front (x ∷ xs) ys zero h = refl
number_at-front (x ∷ xs) ys (suc j) h = number_at-front xs ys j (omega (arith, h))

number_at-scaled : (k : ℤ) (xs : List ℤ) (i : ℕ) → number_at (map (λ (x : ℤ). k *ℤ x) xs) i ≡ k *ℤ number_at xs i
number_at-scaled k [] i = sym (*ℤ-zero k)
number_at-scaled k (x ∷ xs) zero = refl
number_at-scaled k (x ∷ xs) (suc i) = number_at-scaled k xs i

-- the values: w, 0, and three blocks
record Blocks (n m w : ℕ) (v : List ℤ) : Type 0 where
  xs : List ℤ
  ss : List ℤ
  ts : List ℤ
  is : v ≡ pos w ∷ pos 0 ∷ (xs ++ (ss ++ ts))
  xs_length : length xs ≡ n
  ss_length : length ss ≡ m

blocks_of : (n m w : ℕ) (v : List ℤ) → length v ≡ 2 + (n + (m + n)) → number_at v 0 ≡ pos w → number_at v 1 ≡ pos 0 → Blocks n m w v
blocks_of n m w [] h front aux = absurd (omega (arith, h))
blocks_of n m w (a ∷ []) h front aux = absurd (omega (arith, h))
blocks_of n m w (a ∷ b ∷ v) h front aux =
    let f = split n v (omega (arith, h)) in
    let g = split m f.back (let l = f.back_length in omega (arith, h, l)) in
    record {
      xs = f.front;
      ss = g.front;
      ts = g.back;
      is = ap (λ (x : ℤ). x ∷ b ∷ v) front ∙ ap (λ (x : ℤ). pos w ∷ x ∷ v) aux ∙ ap (λ (ys : List ℤ). pos w ∷ pos 0 ∷ ys) (f.is ∙ ap (λ (ys : List ℤ). f.front ++ ys) g.is);
      xs_length = f.front_length;
      ss_length = g.front_length;
    }

pub basic_point_satisfies_lem : BasicPointSatisfies
unfolding Shifts
basic_point_satisfies_lem rows bounds qs point names pointing basic =
    let n = length bounds in
    let m = length rows in
    let k = 1 + (n + (m + n)) in
    let w = basic.shares.common in
    let ys = basic.shares.tops in
    let v = values k (pos w) qs ys in
    let size : 2 + (n + (m + n)) ≡ suc k = omega arith in
    let t : IsTableau (suc k) qs = subst (λ (x : ℕ). IsTableau x qs) size pointing.tableau in
    let solves : IsSolution v qs = solution_from v qs (λ i p e. own_value k w i p qs ys t basic.shares.are e) in
    let signs : NoneNegative v = none_negative-values (suc k) k w qs ys t pointing.feasible basic.shares.are in
    let front : number_at v 0 ≡ pos w =
    (let none = share_none qs ys 0 (λ i q e z. (let a = (t.each i q e).basic_above in omega (arith, a, z))) in
    omega (arith, ints, number_at-values k (pos w) qs ys 0 (omega arith), none)) in
    let aux : number_at v 1 ≡ pos 0 =
    (let none = share_none qs ys 1 pointing.no_auxiliary in
    omega (arith, ints, number_at-values k (pos w) qs ys 1 (omega arith), none, number_at-zeros k 0)) in
    let b = blocks_of n m w v (length-values k (pos w) qs ys ∙ sym size) front aux in
    let los = lows_of bounds in
    let base = map (λ (x : ℤ). pos w *ℤ x) los in
    let base_length : length base ≡ n = length-mapped (λ (x : ℤ). pos w *ℤ x) los ∙ length-mapped (λ (r : Range). r.lo) bounds in
    let tops = moved_all n qs ys base in
    let signs_split : NoneNegative (pos w ∷ pos 0 ∷ (b.xs ++ (b.ss ++ b.ts))) = subst NoneNegative b.is signs in
    let two = none_negative-append b.xs (b.ss ++ b.ts) signs_split.1.1 in
    let three = none_negative-append b.ss b.ts two.1 in
    let shifts : (j : ℕ) → j < n → number_at tops j ≡ number_at b.xs j +ℤ pos w *ℤ number_at los j =
    (λ j h. (
    let there : number_at v (suc (suc j)) ≡ number_at b.xs j = ap (λ (u : List ℤ). number_at u (suc (suc j))) b.is ∙ number_at-front b.xs (b.ss ++ b.ts) j (subst (λ (x : ℕ). j < x) (sym b.xs_length) h) in
    omega (
      arith,
      ints,
      there,
      number_at-values k (pos w) qs ys (suc (suc j)) (omega (arith, h)),
      number_at-zeros k (suc j),
      number_at-moved_all n qs ys base j (subst (λ (x : ℕ). j < x) (sym base_length) h),
      number_at-scaled (pos w) los j,
    ))) in
    let holds = from_values rows bounds w b.xs b.ss b.ts tops names b.xs_length b.ss_length (length-moved_all n qs ys base ∙ base_length) two.0 three.0 three.1 shifts
    (subst (λ (u : List ℤ). IsSolution u (first_tableau rows bounds)) b.is (pointing.follows v solves)) in
    record { below = w; positive = basic.shares.positive; tops = tops; are_over = basic.over; rows_hold = holds.0; bounds_hold = holds.1 }
  where
    number_at-zeros : (n i : ℕ) → number_at (zeros n) i ≡ pos 0
    number_at-zeros zero i = refl
    number_at-zeros (suc n) zero = refl
    number_at-zeros (suc n) (suc i) = number_at-zeros n i
