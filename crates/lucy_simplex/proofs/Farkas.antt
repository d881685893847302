-- Where no variable improves, the auxiliary variable's equation gives multipliers.
use Rattle.std.proofs.Common.{◌≡◌, ℕ, zero, suc, ◌+◌, ◌<◌, ◌≤◌, true, ℤ, pos, negsuc, neg_ℤ, ◌+ℤ◌, ◌-ℤ◌, ◌*ℤ◌, List, [], ◌∷◌, ◌++◌, length, map, ap, sym, ◌∙◌, refl, arith}
use Rattle.std.proofs.lemmas.Int.{ints}
use Rattle.std.specs.List.{list_all}
use Rattle.std.proofs.Math.IntN.{*ℤ-zero}
use Rattle.lucy_clauses.proofs.Products.{times_sum}
use Rattle.lucy_clauses.proofs.Mapping.{two_tests}
use Rattle.lucy_clauses.specs.declared.parts.Part.{Part}
use Rattle.lucy_clauses.specs.declared.formulas.Range.{Range}
use Rattle.lucy_clauses.specs.Sums.{Form, number_at, sum_at}
use Rattle.lucy_clauses.specs.Formulas.{names_below}
use Rattle.lucy_simplex.specs.Systems.{dot, lows_of, highs_of, rows_left, rows_right}
use Rattle.lucy_simplex.specs.Tableaus.{Equation, IsSolution}
use Rattle.lucy_simplex.specs.First.{zeros, unit, dense, row_numbers, bound_numbers, row_equations, bound_equations, first_tableau}
use Rattle.lucy_simplex.proofs.Statements.{IsRefuting, NoImprovementRefutes}
use Rattle.lucy_simplex.proofs.Dots.{dot-negative}
use Rattle.lucy_simplex.proofs.Firsts.{dot-append, dot-unit, dot-zeros, dot-dense, length-dense, length-zeros, length-negative, length-bumped, plus, times, length-plus, length-times, number_at-plus, number_at-times, sum_at-plus, sum_at-times, dot-plus, dot-times}

-- the values of all places at one assignment of the variables, with 0 for the auxiliary one
abbrev slack_at : List ℤ → Form → ℤ
slack_at a r = r.bound -ℤ sum_at r.parts a

abbrev slacks : List ℤ → List Form → List ℤ
slacks a rows = map (slack_at a) rows

abbrev less : List ℤ → List ℤ → List ℤ
less a b = plus a (times (negsuc 0) b)

abbrev values : List Form → List Range → List ℤ → List ℤ
values rows bounds a = pos 1 ∷ pos 0 ∷ (less a (lows_of bounds) ++ (slacks a rows ++ less (highs_of bounds) a))

pub length-mapped : {A B : Type 0} (f : A → B) (xs : List A) → length (map f xs) ≡ length xs
length-mapped f [] = refl
length-mapped f (x ∷ xs) = ap suc (length-mapped f xs)

solution-append : (v : List ℤ) (ps qs : List Equation) → IsSolution v ps → IsSolution v qs → IsSolution v (ps ++ qs)
solution-append v [] qs h k = k
solution-append v (p ∷ ps) qs h k = (h.0, solution-append v ps qs h.1 k)

pub minus_one : (x : ℤ) → negsuc 0 *ℤ x ≡ neg_ℤ x
minus_one x = omega (arith, ints)

row_value : (n m i : ℕ) (los a ss ts : List ℤ) (r : Form) → length los ≡ n → length a ≡ n → length ss ≡ m → i < m → names_below n r.parts ≡ true → number_at ss i ≡ slack_at a r
    → dot (row_numbers n m los i r) (pos 1 ∷ pos 0 ∷ (less a los ++ (ss ++ ts))) ≡ pos 0
row_value n m i los a ss ts r hl ha hs below names is =
    let k : length (times (negsuc 0) los) ≡ length los = length-times (negsuc 0) los in
    let same : length a ≡ length (times (negsuc 0) los) = ha ∙ sym hl ∙ sym k in
    let left : length (map neg_ℤ (dense n r.parts)) ≡ length (less a los) = length-negative (dense n r.parts) ∙ length-dense n r.parts ∙ sym hl ∙ sym k ∙ sym (length-plus a (times (negsuc 0) los) same) in
    let middle : length (unit m i) ≡ length ss = length-bumped (zeros m) i (negsuc 0) ∙ length-zeros m ∙ sym hs in
    omega (
      arith,
      ints,
      dot-append (map neg_ℤ (dense n r.parts)) (less a los) (unit m i ++ zeros n) (ss ++ ts) left,
      dot-append (unit m i) ss (zeros n) ts middle,
      dot-negative (dense n r.parts) (less a los),
      dot-dense n r.parts (less a los) names,
      sum_at-plus r.parts a (times (negsuc 0) los) same,
      sum_at-times r.parts (negsuc 0) los,
      minus_one (sum_at r.parts los),
      dot-unit m i ss below,
      dot-zeros n ts,
      is,
    )

rows_solved : (n m i : ℕ) (los a ss ts : List ℤ) (rows : List Form) → length los ≡ n → length a ≡ n → length ss ≡ m → i + length rows ≤ m → list_all (λ (r : Form). names_below n r.parts) rows ≡ true
    → ((k : ℕ) → k < length rows → number_at ss (k + i) ≡ number_at (slacks a rows) k)
    → IsSolution (pos 1 ∷ pos 0 ∷ (less a los ++ (ss ++ ts))) (row_equations n m los i rows)
rows_solved n m i los a ss ts [] hl ha hs few names each = tt
rows_solved n m i los a ss ts (r ∷ rs) hl ha hs few names each =
    let t = two_tests (names_below n r.parts) (list_all (λ (r : Form). names_below n r.parts) rs) names in (
      row_value n m i los a ss ts r hl ha hs (omega (arith, few)) t.0 (let e : i ≡ 0 + i = omega arith in ap (number_at ss) e ∙ each 0 (omega arith)),
      rows_solved n m (i + 1) los a ss ts rs hl ha hs (omega (arith, few)) t.1 (λ k h. (let e : k + (i + 1) ≡ suc k + i = omega arith in ap (number_at ss) e ∙ each (suc k) (omega arith))),
    )

bound_value : (n m j : ℕ) (los his a ss : List ℤ) (b : Range) → length los ≡ n → length his ≡ n → length a ≡ n → length ss ≡ m → j < n → number_at los j ≡ b.lo → number_at his j ≡ b.hi
    → dot (bound_numbers n m j b) (pos 1 ∷ pos 0 ∷ (less a los ++ (ss ++ less his a))) ≡ pos 0
bound_value n m j los his a ss b hl hh ha hs below lo hi =
    let k : length (times (negsuc 0) los) ≡ length los = length-times (negsuc 0) los in
    let k2 : length (times (negsuc 0) a) ≡ length a = length-times (negsuc 0) a in
    let same : length a ≡ length (times (negsuc 0) los) = ha ∙ sym hl ∙ sym k in
    let same2 : length his ≡ length (times (negsuc 0) a) = hh ∙ sym ha ∙ sym k2 in
    let left : length (unit n j) ≡ length (less a los) = length-bumped (zeros n) j (negsuc 0) ∙ length-zeros n ∙ sym hl ∙ sym k ∙ sym (length-plus a (times (negsuc 0) los) same) in
    let middle : length (zeros m) ≡ length ss = length-zeros m ∙ sym hs in
    omega (
      arith,
      ints,
      dot-append (unit n j) (less a los) (zeros m ++ unit n j) (ss ++ less his a) left,
      dot-append (zeros m) ss (unit n j) (less his a) middle,
      dot-unit n j (less a los) below,
      dot-unit n j (less his a) below,
      dot-zeros m ss,
      number_at-plus a (times (negsuc 0) los) j same,
      number_at-times (negsuc 0) los j,
      minus_one (number_at los j),
      number_at-plus his (times (negsuc 0) a) j same2,
      number_at-times (negsuc 0) a j,
      minus_one (number_at a j),
      lo,
      hi,
    )

bounds_solved : (n m j : ℕ) (los his a ss : List ℤ) (bs : List Range) → length los ≡ n → length his ≡ n → length a ≡ n → length ss ≡ m → j + length bs ≤ n
    → ((k : ℕ) → k < length bs → number_at los (k + j) ≡ number_at (lows_of bs) k) → ((k : ℕ) → k < length bs → number_at his (k + j) ≡ number_at (highs_of bs) k)
    → IsSolution (pos 1 ∷ pos 0 ∷ (less a los ++ (ss ++ less his a))) (bound_equations n m j bs)
bounds_solved n m j los his a ss [] hl hh ha hs few lo hi = tt
bounds_solved n m j los his a ss (b ∷ bs) hl hh ha hs few lo hi = (
  bound_value n m j los his a ss b hl hh ha hs (omega (arith, few)) (let e : j ≡ 0 + j = omega arith in ap (number_at los) e ∙ lo 0 (omega arith)) (let e : j ≡ 0 + j = omega arith in ap (number_at his) e ∙ hi 0 (omega arith)),
  bounds_solved n m (j + 1) los his a ss bs hl hh ha hs (omega (arith, few))
      (λ k h. (let e : k + (j + 1) ≡ suc k + j = omega arith in ap (number_at los) e ∙ lo (suc k) (omega arith)))
      (λ k h. (let e : k + (j + 1) ≡ suc k + j = omega arith in ap (number_at his) e ∙ hi (suc k) (omega arith))),
)

-- each assignment, with its slacks, solves the first tableau
pub first_solved : (rows : List Form) (bounds : List Range) (a : List ℤ) → length a ≡ length bounds → list_all (λ (r : Form). names_below (length bounds) r.parts) rows ≡ true
    → IsSolution (values rows bounds a) (first_tableau rows bounds)
first_solved rows bounds a ha names =
    let n = length bounds in
    let m = length rows in
    let los = lows_of bounds in
    let his = highs_of bounds in
    let ss = slacks a rows in
    let hl : length los ≡ n = length-mapped (λ (b : Range). b.lo) bounds in
    let hh : length his ≡ n = length-mapped (λ (b : Range). b.hi) bounds in
    let hs : length ss ≡ m = length-mapped (slack_at a) rows in
    let at_zero : (k : ℕ) → k + 0 ≡ k = λ k. omega arith in
    solution-append (values rows bounds a) (row_equations n m los 0 rows) (bound_equations n m 0 bounds)
    (rows_solved n m 0 los a ss (less his a) rows hl ha hs (omega arith) names (λ k h. ap (number_at ss) (at_zero k)))
    (bounds_solved n m 0 los his a ss bounds hl hh ha hs (omega arith) (λ k h. ap (number_at los) (at_zero k)) (λ k h. ap (number_at his) (at_zero k)))

-- the slacks, each times its multiplier
dot-slacks : (ms a : List ℤ) (rows : List Form) → dot ms (slacks a rows) ≡ rows_right rows ms -ℤ rows_left rows ms a
dot-slacks [] a [] = refl
dot-slacks [] a (r ∷ rs) = refl
dot-slacks (m ∷ ms) a [] = refl
dot-slacks (m ∷ ms) a (r ∷ rs) =
    omega (arith, ints, dot-slacks ms a rs, less_times m r.bound (sum_at r.parts a))
  where
    less_times : (x y z : ℤ) → x *ℤ (y -ℤ z) ≡ x *ℤ y -ℤ x *ℤ z
    less_times x y z =
        let back : (y -ℤ z) +ℤ z ≡ y = omega (arith, ints) in
        omega (arith, ints, times_sum x (y -ℤ z) z, ap (λ (w : ℤ). x *ℤ w) back)

sum_at-zeros : (ps : List Part) (n : ℕ) → sum_at ps (zeros n) ≡ pos 0
sum_at-zeros [] n = refl
sum_at-zeros (p ∷ ps) n = omega (arith, ints, sum_at-zeros ps n, ap (λ (x : ℤ). p.by *ℤ x) (number_at-zeros n p.variable), *ℤ-zero p.by)
  where
    number_at-zeros : (n i : ℕ) → number_at (zeros n) i ≡ pos 0
    number_at-zeros zero i = refl
    number_at-zeros (suc n) zero = refl
    number_at-zeros (suc n) (suc i) = number_at-zeros n i

rows_left-zeros : (rows : List Form) (ms : List ℤ) (n : ℕ) → rows_left rows ms (zeros n) ≡ pos 0
rows_left-zeros [] ms n = refl
rows_left-zeros (r ∷ rs) [] n = refl
rows_left-zeros (r ∷ rs) (m ∷ ms) n = omega (arith, ints, rows_left-zeros rs ms n, ap (λ (x : ℤ). m *ℤ x) (sum_at-zeros r.parts n), *ℤ-zero m)

pub dot-with_zeros : (xs : List ℤ) (n : ℕ) → dot xs (zeros n) ≡ pos 0
dot-with_zeros [] n = refl
dot-with_zeros (x ∷ xs) zero = refl
dot-with_zeros (x ∷ xs) (suc n) = omega (arith, ints, dot-with_zeros xs n, *ℤ-zero x)

-- the equation at an assignment
at_assignment : (rows : List Form) (bounds : List Range) (c aux : ℤ) (lows ms highs : List ℤ) → list_all (λ (r : Form). names_below (length bounds) r.parts) rows ≡ true
    → IsRefuting rows bounds c aux lows ms highs → (a : List ℤ) → length a ≡ length bounds
    → rows_left rows ms a +ℤ (dot highs a -ℤ dot lows a) ≡ c +ℤ (rows_right rows ms +ℤ (dot highs (highs_of bounds) -ℤ dot lows (lows_of bounds)))
at_assignment rows bounds c aux lows ms highs names f a ha =
    let los = lows_of bounds in
    let his = highs_of bounds in
    let hl : length los ≡ length bounds = length-mapped (λ (b : Range). b.lo) bounds in
    let hh : length his ≡ length bounds = length-mapped (λ (b : Range). b.hi) bounds in
    let k : length (times (negsuc 0) los) ≡ length los = length-times (negsuc 0) los in
    let k2 : length (times (negsuc 0) a) ≡ length a = length-times (negsuc 0) a in
    let same : length a ≡ length (times (negsuc 0) los) = ha ∙ sym hl ∙ sym k in
    let same2 : length his ≡ length (times (negsuc 0) a) = hh ∙ sym ha ∙ sym k2 in
    let left : length lows ≡ length (less a los) = f.lows_count ∙ sym hl ∙ sym k ∙ sym (length-plus a (times (negsuc 0) los) same) in
    let middle : length ms ≡ length (slacks a rows) = f.rows_count ∙ sym (length-mapped (slack_at a) rows) in
    omega (
      arith,
      ints,
      f.follows (values rows bounds a) (first_solved rows bounds a ha names),
      dot-append lows (less a los) (ms ++ highs) (slacks a rows ++ less his a) left,
      dot-append ms (slacks a rows) highs (less his a) middle,
      dot-plus lows a (times (negsuc 0) los) same,
      dot-times lows (negsuc 0) los,
      minus_one (dot lows los),
      dot-plus highs his (times (negsuc 0) a) same2,
      dot-times highs (negsuc 0) a,
      minus_one (dot highs a),
      dot-slacks ms a rows,
      *ℤ-zero aux,
    )

pub no_improvement_refutes : NoImprovementRefutes
no_improvement_refutes rows bounds c aux lows ms highs names f =
    let n = length bounds in
    let none = at_assignment rows bounds c aux lows ms highs names f (zeros n) (length-zeros n) in
    let nothing : c +ℤ (rows_right rows ms +ℤ (dot highs (highs_of bounds) -ℤ dot lows (lows_of bounds))) ≡ pos 0 =
    omega (arith, ints, none, rows_left-zeros rows ms n, dot-with_zeros highs n, dot-with_zeros lows n) in
    record {
      rows_count = f.rows_count;
      lows_count = f.lows_count;
      highs_count = f.highs_count;
      rows_sign = f.rows_sign;
      lows_sign = f.lows_sign;
      highs_sign = f.highs_sign;
      left = λ a ha. at_assignment rows bounds c aux lows ms highs names f a ha ∙ nothing;
      right = omega (arith, ints, nothing, f.constant);
    }
