-- The first tableau as it is made: fractions and lines appended one by one.
use Rattle.std.proofs.Common.{◌≡◌, ℕ, zero, suc, ◌+◌, ◌<◌, ◌≤◌, ◌==◌, ◌^◌, nat_le, Bool, true, false, unsigned_abs, if◌then◌else◌, ℤ, pos, negsuc, neg_ℤ, List, [], ◌∷◌, ◌++◌, length, map, take, drop, get_or, append_assoc, ap, sym, ◌∙◌, refl, subst, arith}
use Rattle.std.proofs.lemmas.Int.{ints}
use Rattle.std.proofs.lemmas.Bool.Decides.{nat_tests}
use Rattle.std.proofs.lemmas.List.{take_more}
use Rattle.lucy_fraction.specs.Rationals.{Ratio, ratio, IsTooWide}
use Rattle.std.proofs.Math.Nat.{one-dvd}
use Rattle.lucy_clauses.specs.Parts.{total_size}
use Rattle.lucy_clauses.specs.Formulas.{weight, names_below}
use Rattle.lucy_simplex.specs.Conditions.{is_narrow_row}
use Rattle.lucy_simplex.proofs.RowSums.{total_within}
use Rattle.lucy_clauses.specs.declared.parts.Part.{Part}
use Rattle.lucy_clauses.specs.declared.formulas.Range.{Range}
use Rattle.lucy_clauses.specs.Sums.{Form, number_at}
use Rattle.lucy_clauses.proofs.Mapping.{drop-at, two_tests}
use Rattle.lucy_simplex.specs.declared.lines.Line.{Line}
use Rattle.lucy_simplex.specs.Tableaus.{Equation, equation}
use Rattle.lucy_simplex.specs.Steps.{IsOver, AreNumbers, Appends}
use Rattle.lucy_simplex.specs.Reading.{Reads, AreRead, AppendsLines}
use Rattle.lucy_simplex.specs.First.{bumped, zeros, unit, dense, factor_at, unit_at, row_numbers, bound_numbers, row_equations, bound_equations}
use Rattle.lucy_simplex.proofs.Firsts.{length-bumped, length-zeros, length-dense, length-negative}
use Rattle.lucy_simplex.proofs.Keeping.{number_at-negative}
use Rattle.lucy_simplex.proofs.Points.{spike, number_at-bumped, spike_other}
use Rattle.lucy_simplex.proofs.Sweeping.{push_read}

pub numbers_append : (d : ℕ) (ps qs : List Ratio) (xs ys : List ℤ) → AreNumbers d ps xs → AreNumbers d qs ys → AreNumbers d (ps ++ qs) (xs ++ ys)
numbers_append d [] qs [] ys h k = k
numbers_append d [] qs (x ∷ xs) ys h k = absurd h
numbers_append d (p ∷ ps) qs [] ys h k = absurd h
numbers_append d (p ∷ ps) qs (x ∷ xs) ys h k = (h.0, numbers_append d ps qs xs ys h.1 k)

pub appends_one : (old new : List Ratio) (f : Ratio) (x : ℤ) → IsOver 1 f x → new ≡ old ++ f ∷ [] → Appends old (x ∷ []) new
appends_one old new f x h e = λ ys k. subst (λ (ps : List Ratio). AreNumbers 1 ps (ys ++ x ∷ [])) (sym e) (numbers_append 1 old (f ∷ []) ys (x ∷ []) k (h, tt))

pub appends_more : (old mid new : List Ratio) (zs : List ℤ) (i : ℕ) (x : ℤ) → Appends old (take i zs) mid → Appends mid (x ∷ []) new → i < length zs → number_at zs i ≡ x → Appends old (take (i + 1) zs) new
appends_more old mid new zs i x h k below is = λ ys g.
    (let more : take (i + 1) zs ≡ take i zs ++ x ∷ [] = take_more zs i (pos 0) below ∙ ap (λ (y : ℤ). take i zs ++ y ∷ []) is in
    subst (λ (us : List ℤ). AreNumbers 1 new (ys ++ us)) (sym more) (subst (λ (us : List ℤ). AreNumbers 1 new us) (append_assoc ys (take i zs) (x ∷ [])) (k (ys ++ take i zs) (h ys g))))

take_whole : (zs : List ℤ) (i : ℕ) → length zs ≤ i → take i zs ≡ zs
take_whole [] zero h = refl
take_whole [] (suc i) h = refl
take_whole (z ∷ zs) zero h = absurd (omega (arith, h))
take_whole (z ∷ zs) (suc i) h = ap (λ (xs : List ℤ). z ∷ xs) (take_whole zs i (omega (arith, h)))

pub appends_whole : (old new : List Ratio) (zs : List ℤ) (i : ℕ) → Appends old (take i zs) new → length zs ≤ i → Appends old zs new
appends_whole old new zs i h past = subst (λ (us : List ℤ). Appends old us new) (take_whole zs i past) h

-- ---- numbers at places

pub spike_same : (i : ℕ) (k : ℤ) → spike i k i ≡ k
unfolding spike
spike_same zero k = refl
spike_same (suc i) k = spike_same i k

pub spike_tested : (i j : ℕ) (k : ℤ) → spike i k j ≡ (if i == j then k else pos 0)
spike_tested i j k = by_test (i == j) refl
  where
    by_test : (b : Bool) → (i == j) ≡ b → spike i k j ≡ (if b then k else pos 0)
    by_test true e =
        let same : i ≡ j = grind (arith, nat_tests) in
        subst (λ (n : ℕ). spike i k n ≡ k) same (spike_same i k)
    by_test false e =
        let apart : i ≡ j → ⊥ = λ same. (grind (arith, nat_tests)) in
        spike_other i k j apart

pub number_at-zeros : (n i : ℕ) → number_at (zeros n) i ≡ pos 0
number_at-zeros zero i = refl
number_at-zeros (suc n) zero = refl
number_at-zeros (suc n) (suc i) = number_at-zeros n i

pub dense_at : (n : ℕ) (ps : List Part) (j : ℕ) → j < n → number_at (dense n ps) j ≡ factor_at ps j
dense_at n [] j h = number_at-zeros n j
dense_at n (p ∷ ps) j h =
    omega (arith, ints, number_at-bumped (dense n ps) p.variable p.by j (subst (λ (k : ℕ). j < k) (sym (length-dense n ps)) h), dense_at n ps j h, spike_tested p.variable j p.by)

pub factor_there : (n : ℕ) (ps : List Part) (j : ℕ) → j < n → number_at (map neg_ℤ (dense n ps)) j ≡ neg_ℤ (factor_at ps j)
factor_there n ps j h = number_at-negative (dense n ps) j ∙ ap neg_ℤ (dense_at n ps j h)

pub factors_length : (n : ℕ) (ps : List Part) → length (map neg_ℤ (dense n ps)) ≡ n
factors_length n ps = length-negative (dense n ps) ∙ length-dense n ps

pub unit_there : (n i j : ℕ) → j < n → number_at (unit n i) j ≡ unit_at i j
unit_there n i j h =
    omega (arith, ints, number_at-bumped (zeros n) i (negsuc 0) j (subst (λ (k : ℕ). j < k) (sym (length-zeros n)) h), number_at-zeros n j, spike_tested i j (negsuc 0))

pub units_length : (n i : ℕ) → length (unit n i) ≡ n
units_length n i = length-bumped (zeros n) i (negsuc 0) ∙ length-zeros n

pub bumped_past : (xs : List ℤ) (i : ℕ) (k : ℤ) → length xs ≤ i → bumped xs i k ≡ xs
bumped_past [] i k h = refl
bumped_past (x ∷ xs) zero k h = absurd (omega (arith, h))
bumped_past (x ∷ xs) (suc i) k h = ap (λ (ys : List ℤ). x ∷ ys) (bumped_past xs i k (omega (arith, h)))

pub unit_past : (n : ℕ) → unit n n ≡ zeros n
unit_past n = bumped_past (zeros n) n (negsuc 0) (omega (arith, length-zeros n))

-- ---- lines

-- what was appended, and what is left of all
pub record Begun (old new : List Line) (all rest : List Equation) : Type 0 where
  pub done : List Equation
  pub appends : AppendsLines old done new
  pub whole : done ++ rest ≡ all

nothing_more : (xs : List Equation) → xs ++ [] ≡ xs
nothing_more [] = refl
nothing_more (x ∷ xs) = ap (λ (u : List Equation). x ∷ u) (nothing_more xs)

pub begun : (old : List Line) (all : List Equation) → Begun old old all all
begun old all = record { done = []; appends = λ ps h. subst (λ (xs : List Equation). AreRead xs old) (sym (nothing_more ps)) h; whole = refl }

pub begun_more : (old mid new : List Line) (all rest : List Equation) (q : Equation) (l : Line) → Begun old mid all (q ∷ rest) → Reads q l → new ≡ mid ++ l ∷ [] → Begun old new all rest
begun_more old mid new all rest q l b h e = record {
  done = b.done ++ q ∷ [];
  appends = λ ps k.
      (subst (λ (ls : List Line). AreRead (ps ++ (b.done ++ q ∷ [])) ls) (sym e)
      (subst (λ (xs : List Equation). AreRead xs (mid ++ l ∷ [])) (append_assoc ps b.done (q ∷ [])) (push_read (ps ++ b.done) mid q l (b.appends ps k) h)));
  whole = append_assoc b.done (q ∷ []) rest ∙ b.whole;
}

pub begun_whole : (old new : List Line) (all rest : List Equation) → Begun old new all rest → rest ≡ [] → AppendsLines old all new
begun_whole old new all rest b none =
    let same : b.done ≡ all = sym (nothing_more b.done) ∙ ap (λ (xs : List Equation). b.done ++ xs) (sym none) ∙ b.whole in
    subst (λ (xs : List Equation). AppendsLines old xs new) same b.appends

pub read_one : (n : ℕ) (b : ℕ) (numbers : List ℤ) (l : Line) → l.basic ≡ b → AreNumbers 1 l.numbers.items numbers → Reads (equation 1 b numbers) l
read_one n b numbers l h k = record { positive = omega arith; basic_is = h; numbers_are = k }

pub rows_left_at : (n m : ℕ) (los : List ℤ) (i : ℕ) (rows : List Form) (r : Form) → i < length rows → get_or rows i r ≡ r → row_equations n m los i (drop i rows) ≡ equation 1 (2 + n + i) (row_numbers n m los i r) ∷ row_equations n m los (i + 1) (drop (i + 1) rows)
rows_left_at n m los i rows r below is =
    ap (row_equations n m los i) (drop-at rows i r below) ∙ ap (λ (x : Form). equation 1 (2 + n + i) (row_numbers n m los i x) ∷ row_equations n m los (i + 1) (drop (i + 1) rows)) is

pub bounds_left_at : (n m i : ℕ) (bounds : List Range) (b : Range) → i < length bounds → get_or bounds i b ≡ b → bound_equations n m i (drop i bounds) ≡ equation 1 (2 + n + m + i) (bound_numbers n m i b) ∷ bound_equations n m (i + 1) (drop (i + 1) bounds)
bounds_left_at n m i bounds b below is =
    ap (bound_equations n m i) (drop-at bounds i b below) ∙ ap (λ (x : Range). equation 1 (2 + n + m + i) (bound_numbers n m i x) ∷ bound_equations n m (i + 1) (drop (i + 1) bounds)) is

pub no_rows_left : (n m : ℕ) (los : List ℤ) (i : ℕ) (rows : List Form) → length rows ≤ i → row_equations n m los i (drop i rows) ≡ []
no_rows_left n m los i rows h = ap (row_equations n m los i) (dropped rows i h)
  where
    dropped : (xs : List Form) (i : ℕ) → length xs ≤ i → drop i xs ≡ []
    dropped [] zero h = refl
    dropped [] (suc i) h = refl
    dropped (x ∷ xs) zero h = absurd (omega (arith, h))
    dropped (x ∷ xs) (suc i) h = dropped xs i (omega (arith, h))

pub no_bounds_left : (n m i : ℕ) (bounds : List Range) → length bounds ≤ i → bound_equations n m i (drop i bounds) ≡ []
no_bounds_left n m i bounds h = ap (bound_equations n m i) (dropped bounds i h)
  where
    dropped : (xs : List Range) (i : ℕ) → length xs ≤ i → drop i xs ≡ []
    dropped [] zero h = refl
    dropped [] (suc i) h = refl
    dropped (x ∷ xs) zero h = absurd (omega (arith, h))
    dropped (x ∷ xs) (suc i) h = dropped xs i (omega (arith, h))

-- ---- what is made

pub whole_too_wide : (x : ℤ) → (unsigned_abs x ≤ 2 ^ 62 → ⊥) → IsTooWide (ratio x 1)
whole_too_wide x h = record {
  form = ratio x 1;
  form_is = record { reduced = record { positive = omega arith; coprime = (one-dvd (unsigned_abs x), one-dvd 1, λ e p q. q) }; same = refl };
  wide = λ w. h w.top;
}

pub row_shape : (c : ℤ) (xs us : List ℤ) (n : ℕ) → (c ∷ pos 1 ∷ ((xs ++ us) ++ unit n n)) ≡ c ∷ pos 1 ∷ (xs ++ (us ++ zeros n))
row_shape c xs us n = ap (λ (ys : List ℤ). c ∷ pos 1 ∷ ys) (append_assoc xs us (unit n n) ∙ ap (λ (ys : List ℤ). xs ++ (us ++ ys)) (unit_past n))

pub bound_shape : (c : ℤ) (xs us : List ℤ) (m : ℕ) → (c ∷ pos 1 ∷ ((xs ++ unit m m) ++ us)) ≡ c ∷ pos 1 ∷ (xs ++ (zeros m ++ us))
bound_shape c xs us m = ap (λ (ys : List ℤ). c ∷ pos 1 ∷ ys) (append_assoc xs (unit m m) us ∙ ap (λ (ys : List ℤ). xs ++ (ys ++ us)) (unit_past m))

pub narrow_size : (bounds : List Range) (r : Form) → is_narrow_row bounds r ≡ true → total_size r.parts ≤ 2 ^ 101
narrow_size bounds r h =
    let t = two_tests (names_below (length bounds) r.parts) (nat_le (unsigned_abs r.bound + weight bounds r.parts) (2 ^ 101)) h in
    let small : unsigned_abs r.bound + weight bounds r.parts ≤ 2 ^ 101 = le_test (unsigned_abs r.bound + weight bounds r.parts) (2 ^ 101) t.1 in
    omega (arith, small, total_within bounds r.parts)
  where
    le_test : (n m : ℕ) → nat_le n m ≡ true → n ≤ m
    le_test n m e = grind (arith, nat_tests)

pub no_line_yet : (ls : List Line) → ls ≡ [] → AreRead [] ls
no_line_yet ls e = subst (λ (xs : List Line). AreRead [] xs) (sym e) tt

pub get_again : (bs : List Range) (i : ℕ) (d : Range) → i < length bs → get_or bs i (get_or bs i d) ≡ get_or bs i d
get_again [] i d h = absurd (omega (arith, h))
get_again (b ∷ bs) zero d h = refl
get_again (b ∷ bs) (suc i) d h = get_again bs i d (omega (arith, h))
