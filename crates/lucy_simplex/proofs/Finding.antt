-- The answers: the two sure cases, the first pivot, and the two ends of a run.
use Rattle.std.proofs.Common.{◌≡◌, ℕ, zero, suc, ◌+◌, ◌<◌, ◌≤◌, ◌^◌, ◌==◌, nat_le, Bool, true, false, if◌then◌else◌, ◌&&◌, ◌||◌, int_le, int_lt, ℤ, pos, ◌-ℤ◌, ◌*ℤ◌, ◌≤ℤ◌, ◌<ℤ◌, unsigned_abs, List, [], ◌∷◌, ◌++◌, length, map, take, get_or, slice_get, Some, None, ap, sym, ◌∙◌, refl, subst, arith}
use Rattle.std.proofs.lemmas.Int.{ints}
use Rattle.std.proofs.lemmas.List.{take_more}
use Rattle.std.specs.List.{list_all, list_any}
use Rattle.lucy_clauses.proofs.Mapping.{two_tests, both_tests}
use Rattle.lucy_clauses.proofs.Products.{le_of_test}
use Rattle.lucy_clauses.specs.declared.parts.Part.{Part}
use Rattle.lucy_clauses.specs.declared.formulas.Range.{Range}
use Rattle.lucy_clauses.specs.Sums.{Form, number_at, sum_at}
use Rattle.lucy_clauses.specs.Formulas.{weight, names_below}
use Rattle.lucy_fraction.specs.Rationals.{Ratio}
use Rattle.lucy_simplex.specs.declared.lines.Line.{Line}
use Rattle.lucy_simplex.specs.declared.quotients.Best.{Best}
use Rattle.lucy_simplex.specs.Systems.{Satisfies, Refutes, lows_of}
use Rattle.lucy_simplex.specs.Tableaus.{Equation, IsTableau, constant}
use Rattle.lucy_simplex.specs.Steps.{AreNumbers}
use Rattle.lucy_simplex.specs.First.{places_of, bumped, zeros, dense, row_equations, bound_equations, first_tableau}
use Rattle.lucy_simplex.specs.Reading.{AreRead, HasShape}
use Rattle.lucy_simplex.specs.Choices.{own_below, ComesFirst, IsBest}
use Rattle.lucy_simplex.specs.Ends.{HasLowest, Begins}
use Rattle.lucy_simplex.specs.Sure.{LowsHold, AreOrdered, lows_hold, is_alone, least_of, low_part, high_part}
use Rattle.lucy_simplex.specs.Conditions.{is_small_range, is_narrow_row, is_system}
use Rattle.lucy_simplex.specs.Answers.{StandsOpen}
use Rattle.lucy_simplex.proofs.Firsts.{length-zeros, length-bumped}
use Rattle.lucy_simplex.proofs.Begin.{first_is_tableau_lem, first_ones}
use Rattle.lucy_simplex.proofs.Points.{number_at-bumped}
use Rattle.lucy_simplex.proofs.PointLines.{are_over}
use Rattle.lucy_simplex.proofs.FirstLines.{number_at-zeros, spike_tested}
use Rattle.lucy_simplex.proofs.Refuting.{refuted_has_no_point}
use Rattle.lucy_simplex.proofs.Sweeping.{length_read}
use Rattle.lucy_simplex.proofs.Shapes.{shape_lengths}
use Rattle.lucy_simplex.proofs.Staging.{below_length}
use Rattle.lucy_simplex.proofs.SureCases.{lows_satisfy_lem, row_alone_refutes_lem}

-- ---- numbers listed one by one

pub listed_more : (zs items more : List ℤ) (i : ℕ) (x : ℤ) → items ≡ take i zs → more ≡ items ++ x ∷ [] → i < length zs → number_at zs i ≡ x → more ≡ take (i + 1) zs
listed_more zs items more i x h e below is = e ∙ ap (λ (ys : List ℤ). ys ++ x ∷ []) h ∙ ap (λ (y : ℤ). take i zs ++ y ∷ []) (sym is) ∙ sym (take_more zs i (pos 0) below)

pub listed_whole : (zs items : List ℤ) (i : ℕ) → items ≡ take i zs → length zs ≤ i → items ≡ zs
listed_whole zs items i h past = h ∙ whole zs i past
  where
    whole : (xs : List ℤ) (i : ℕ) → length xs ≤ i → take i xs ≡ xs
    whole [] zero h = refl
    whole [] (suc i) h = refl
    whole (x ∷ xs) zero h = absurd (omega (arith, h))
    whole (x ∷ xs) (suc i) h = ap (λ (ys : List ℤ). x ∷ ys) (whole xs i (omega (arith, h)))

pub ones_length : (n i : ℕ) → length (bumped (zeros n) i (pos 1)) ≡ n
ones_length n i = length-bumped (zeros n) i (pos 1) ∙ length-zeros n

pub one_there : (n i j : ℕ) → j < n → number_at (bumped (zeros n) i (pos 1)) j ≡ (if i == j then pos 1 else pos 0)
one_there n i j h =
    omega (arith, ints, number_at-bumped (zeros n) i (pos 1) j (subst (λ (k : ℕ). j < k) (sym (length-zeros n)) h), number_at-zeros n j, spike_tested i j (pos 1))

-- ---- systems

pub system_ranges : (rows : List Form) (bounds : List Range) → is_system rows bounds ≡ true → list_all is_small_range bounds ≡ true
system_ranges rows bounds h = (two_tests (list_all is_small_range bounds) (list_all (is_narrow_row bounds) rows) h).0

pub system_rows : (rows : List Form) (bounds : List Range) → is_system rows bounds ≡ true → list_all (is_narrow_row bounds) rows ≡ true
system_rows rows bounds h = (two_tests (list_all is_small_range bounds) (list_all (is_narrow_row bounds) rows) h).1

ordered_all : (bounds : List Range) → list_all is_small_range bounds ≡ true → AreOrdered bounds
ordered_all [] h = tt
ordered_all (b ∷ bs) h =
    let t = two_tests (is_small_range b) (list_all is_small_range bs) h in
    let u = two_tests (int_le b.lo b.hi) (nat_le (unsigned_abs b.lo) (2 ^ 62) && nat_le (unsigned_abs b.hi) (2 ^ 62)) t.0 in
    (le_of_test b.lo b.hi u.0, ordered_all bs t.1)

names_all : (bounds : List Range) (rows : List Form) → list_all (is_narrow_row bounds) rows ≡ true → list_all (λ (r : Form). names_below (length bounds) r.parts) rows ≡ true
names_all bounds [] h = refl
names_all bounds (r ∷ rs) h =
    let t = two_tests (is_narrow_row bounds r) (list_all (is_narrow_row bounds) rs) h in
    let u = two_tests (names_below (length bounds) r.parts) (nat_le (unsigned_abs r.bound + weight bounds r.parts) (2 ^ 101)) t.0 in
    both_tests (names_below (length bounds) r.parts) (list_all (λ (r : Form). names_below (length bounds) r.parts) rs) u.0 (names_all bounds rs t.1)

pub system_names : (rows : List Form) (bounds : List Range) → is_system rows bounds ≡ true → list_all (λ (r : Form). names_below (length bounds) r.parts) rows ≡ true
system_names rows bounds h = names_all bounds rows (system_rows rows bounds h)

-- ---- the two sure cases

holds_each : (bounds : List Range) (rows : List Form) → lows_hold rows bounds ≡ true → LowsHold rows (lows_of bounds)
holds_each bounds [] h = tt
holds_each bounds (r ∷ rs) h =
    let t = two_tests (int_le (sum_at r.parts (lows_of bounds)) r.bound) (list_all (λ (r : Form). int_le (sum_at r.parts (lows_of bounds)) r.bound) rs) h in
    (le_of_test (sum_at r.parts (lows_of bounds)) r.bound t.0, holds_each bounds rs t.1)

pub lows_right : (rows : List Form) (bounds : List Range) (point : List Ratio) → is_system rows bounds ≡ true → lows_hold rows bounds ≡ true → AreNumbers 1 point (lows_of bounds) → Satisfies rows bounds point
lows_right rows bounds point s h over = lows_satisfy_lem rows bounds point (ordered_all bounds (system_ranges rows bounds s)) (holds_each bounds rows h) (are_over 1 point (lows_of bounds) over)

less_of_test : (a b : ℤ) → int_lt a b ≡ true → a <ℤ b
less_of_test a b e = grind (arith, ints, e)

names_at : (n : ℕ) (rows : List Form) (i : ℕ) (r : Form) → list_all (λ (r : Form). names_below n r.parts) rows ≡ true → slice_get rows i ≡ Some r → names_below n r.parts ≡ true
names_at n [] i r h there = absurd (cc)
names_at n (s ∷ rs) zero r h there =
    let same : s ≡ r = cc in
    ap (λ (x : Form). names_below n x.parts) (sym same) ∙ (two_tests (names_below n s.parts) (list_all (λ (r : Form). names_below n r.parts) rs) h).0
names_at n (s ∷ rs) (suc i) r h there = names_at n rs i r (two_tests (names_below n s.parts) (list_all (λ (r : Form). names_below n r.parts) rs) h).1 there

pub alone_right : (rows : List Form) (bounds : List Range) (i : ℕ) (r : Form) → is_system rows bounds ≡ true → slice_get rows i ≡ Some r → is_alone bounds r ≡ true
    → Refutes rows bounds (bumped (zeros (length rows)) i (pos 1)) (dense (length bounds) (map low_part r.parts)) (dense (length bounds) (map high_part r.parts))
alone_right rows bounds i r s there h = row_alone_refutes_lem rows bounds i r there (names_at (length bounds) rows i r (system_names rows bounds s) there) (less_of_test r.bound (least_of bounds r.parts) h)

any_there : (bounds : List Range) (rows : List Form) → list_any (is_alone bounds) rows ≡ true → (i : ℕ) × ((r : Form) × (slice_get rows i ≡ Some r) × (is_alone bounds r ≡ true))
any_there bounds [] h = absurd (cc)
any_there bounds (r ∷ rs) h = by_test (λ k. any_there bounds rs k) (is_alone bounds r) refl h
  where
    by_test : (list_any (is_alone bounds) rs ≡ true → (i : ℕ) × ((s : Form) × (slice_get rs i ≡ Some s) × (is_alone bounds s ≡ true))) → (b : Bool) → is_alone bounds r ≡ b → (b || list_any (is_alone bounds) rs) ≡ true → (i : ℕ) × ((s : Form) × (slice_get (r ∷ rs) i ≡ Some s) × (is_alone bounds s ≡ true))
    by_test rest true e k = (0, (r, refl, e))
    by_test rest false e k = (let t = rest k in (suc t.0, t.1))

pub not_both : (rows : List Form) (bounds : List Range) (point : List Ratio) → is_system rows bounds ≡ true → Satisfies rows bounds point → list_any (is_alone bounds) rows ≡ true → ⊥
not_both rows bounds point s point_is h =
    let t = any_there bounds rows h in
    refuted_has_no_point rows bounds _ _ _ point (alone_right rows bounds t.0 t.1.0 s t.1.1 t.1.2) point_is

-- ---- the first pivot

record Falling (qs : List Equation) : Type 0 where
  place : ℕ
  q : Equation
  there : slice_get qs place ≡ Some q
  below : constant q <ℤ pos 0

row_falls : (n m : ℕ) (bounds : List Range) (i : ℕ) (rows : List Form) → lows_hold rows bounds ≡ false → Falling (row_equations n m (lows_of bounds) i rows)
row_falls n m bounds i [] h = absurd (cc)
row_falls n m bounds i (r ∷ rs) h = by_test (λ k. row_falls n m bounds (i + 1) rs k) (int_le (sum_at r.parts (lows_of bounds)) r.bound) refl h
  where
    above_bound : (x b : ℤ) → int_le x b ≡ false → (b -ℤ x) <ℤ pos 0
    above_bound x b e = grind (arith, ints, e)

    by_test : (lows_hold rs bounds ≡ false → Falling (row_equations n m (lows_of bounds) (i + 1) rs)) → (t : Bool) → int_le (sum_at r.parts (lows_of bounds)) r.bound ≡ t → (t && lows_hold rs bounds) ≡ false → Falling (row_equations n m (lows_of bounds) i (r ∷ rs))
    by_test rest true e k = (let f = rest k in record { place = suc f.place; q = f.q; there = f.there; below = f.below })
    by_test rest false e k = record { place = 0; q = _; there = refl; below = above_bound (sum_at r.parts (lows_of bounds)) r.bound e }

get-front : (ps qs : List Equation) (i : ℕ) (q : Equation) → slice_get ps i ≡ Some q → slice_get (ps ++ qs) i ≡ Some q
get-front [] qs i q h = absurd (cc)
get-front (p ∷ ps) qs zero q h = h
get-front (p ∷ ps) qs (suc i) q h = get-front ps qs i q h

first_falls : (rows : List Form) (bounds : List Range) → lows_hold rows bounds ≡ false → Falling (first_tableau rows bounds)
first_falls rows bounds h =
    let f = row_falls (length bounds) (length rows) bounds 0 rows h in
    record { place = f.place; q = f.q; there = get-front (row_equations (length bounds) (length rows) (lows_of bounds) 0 rows) (bound_equations (length bounds) (length rows) 0 bounds) f.place f.q f.there; below = f.below }

pub none_absurd : (rows : List Form) (bounds : List Range) (n : ℕ) → n ≡ length (first_tableau rows bounds) → lows_hold rows bounds ≡ false → IsBest own_below (first_tableau rows bounds) n None → ⊥
none_absurd rows bounds n same h none =
    let f = first_falls rows bounds h in
    not_none f.q.below (first_ones rows bounds f.place f.q f.there).0 (none f.place f.q (subst (λ (k : ℕ). f.place < k) (sym same) (below_length (first_tableau rows bounds) f.place f.q f.there)) f.there)
  where
    not_none : (d : ℕ) → d ≡ 1 → pos d ≤ℤ pos 0 → ⊥
    not_none d e k = omega (arith, ints, e, k)

pub lowest_is : (rows : List Form) (bounds : List Range) (n : ℕ) (b : Best) → n ≡ length (first_tableau rows bounds) → lows_hold rows bounds ≡ false → IsBest own_below (first_tableau rows bounds) n (Some b) → HasLowest b.place (first_tableau rows bounds)
lowest_is rows bounds n b same h best = (
  best.0,
  record {
    there = best.1;
    below = (let f = first_falls rows bounds h in let k = least f.place f.q f.there in under (constant best.0) (constant f.q) k f.below);
    least = least;
    among_equals = λ i p at e. (first i p at).among_equals (times (constant best.0) (constant p) best.0.below p.below (one best.1) (ones i p at) e);
  },
)
  where
    ones : (i : ℕ) (p : Equation) → slice_get (first_tableau rows bounds) i ≡ Some p → p.below ≡ 1
    ones i p at = (first_ones rows bounds i p at).0

    one : slice_get (first_tableau rows bounds) b.place ≡ Some best.0 → best.0.below ≡ 1
    one at = (first_ones rows bounds b.place best.0 at).0

    some : (d : ℕ) → d ≡ 1 → pos 0 <ℤ pos d
    some d e = omega (arith, ints, e)

    first : (i : ℕ) (p : Equation) → slice_get (first_tableau rows bounds) i ≡ Some p → ComesFirst own_below best.0 p
    first i p at = best.4 i p (subst (λ (k : ℕ). i < k) (sym same) (below_length (first_tableau rows bounds) i p at)) at (some p.below (ones i p at))

    plain : (x y : ℤ) (d e : ℕ) → d ≡ 1 → e ≡ 1 → (x *ℤ pos e) ≤ℤ (y *ℤ pos d) → x ≤ℤ y
    plain x y d e h k le = (let u = subst (λ (m : ℕ). (x *ℤ pos e) ≤ℤ (y *ℤ pos m)) h le in let v = subst (λ (m : ℕ). (x *ℤ pos m) ≤ℤ (y *ℤ pos 1)) k u in omega (arith, ints, v))

    times : (x y : ℤ) (d e : ℕ) → d ≡ 1 → e ≡ 1 → x ≡ y → x *ℤ pos e ≡ y *ℤ pos d
    times x y d e h k same = ap (λ (z : ℤ). z *ℤ pos e) same ∙ ap (λ (m : ℕ). y *ℤ pos m) (k ∙ sym h)

    least : (i : ℕ) (p : Equation) → slice_get (first_tableau rows bounds) i ≡ Some p → constant best.0 ≤ℤ constant p
    least i p at = plain (constant best.0) (constant p) best.0.below p.below (one best.1) (ones i p at) (first i p at).least

    under : (x y : ℤ) → x ≤ℤ y → y <ℤ pos 0 → x <ℤ pos 0
    under x y h k = omega (arith, ints, h, k)

pub first_lengths : (rows : List Form) (bounds : List Range) (ls more : List Line) → more ≡ ls → AreRead (first_tableau rows bounds) ls → (k : ℕ) (d : Line) → k < length more → 0 < length (get_or more k d).numbers.items
first_lengths rows bounds ls more same h k d below =
    let shape : HasShape (places_of rows bounds) more = record { qs = first_tableau rows bounds; read = subst (λ (xs : List Line). AreRead (first_tableau rows bounds) xs) (sym same) h; tableau = first_is_tableau_lem rows bounds } in
    subst (λ (n : ℕ). 0 < n) (sym (shape_lengths (places_of rows bounds) more shape k d below)) (omega arith)

pub begins_at : (rows : List Form) (bounds : List Range) (n place : ℕ) (ls more : List Line) → n ≡ places_of rows bounds → more ≡ ls → AreRead (first_tableau rows bounds) ls → HasLowest place (first_tableau rows bounds) → Begins n place more
begins_at rows bounds n place ls more size same h lowest = record {
  qs = first_tableau rows bounds;
  read = subst (λ (xs : List Line). AreRead (first_tableau rows bounds) xs) (sym same) h;
  tableau = subst (λ (k : ℕ). IsTableau k (first_tableau rows bounds)) (sym size) (first_is_tableau_lem rows bounds);
  ones = λ i q at. (first_ones rows bounds i q at).1;
  lowest = lowest;
}

pub best_lowest : (rows : List Form) (bounds : List Range) (ls more : List Line) (b : Best) → more ≡ ls → AreRead (first_tableau rows bounds) ls → lows_hold rows bounds ≡ false → ((qs : List Equation) → AreRead qs more → IsBest own_below qs (length more) (Some b)) → HasLowest b.place (first_tableau rows bounds)
best_lowest rows bounds ls more b same h breaks best =
    let read = subst (λ (xs : List Line). AreRead (first_tableau rows bounds) xs) (sym same) h in
    lowest_is rows bounds (length more) b (sym (length_read (first_tableau rows bounds) more read)) breaks (best (first_tableau rows bounds) read)

pub some_lowest : (rows : List Form) (bounds : List Range) (ls more : List Line) → more ≡ ls → AreRead (first_tableau rows bounds) ls → lows_hold rows bounds ≡ false → ((qs : List Equation) → AreRead qs more → IsBest own_below qs (length more) None) → ⊥
some_lowest rows bounds ls more same h breaks none =
    let read = subst (λ (xs : List Line). AreRead (first_tableau rows bounds) xs) (sym same) h in
    none_absurd rows bounds (length more) (sym (length_read (first_tableau rows bounds) more read)) breaks (none (first_tableau rows bounds) read)

pub narrow_at : (bounds : List Range) (rows : List Form) (i : ℕ) (r : Form) → list_all (is_narrow_row bounds) rows ≡ true → i < length rows → get_or rows i r ≡ r → is_narrow_row bounds r ≡ true
narrow_at bounds [] i r h below is = absurd (omega (arith, below))
narrow_at bounds (s ∷ rs) zero r h below is = subst (λ (x : Form). is_narrow_row bounds x ≡ true) is (two_tests (is_narrow_row bounds s) (list_all (is_narrow_row bounds) rs) h).0
narrow_at bounds (s ∷ rs) (suc i) r h below is = narrow_at bounds rs i r (two_tests (is_narrow_row bounds s) (list_all (is_narrow_row bounds) rs) h).1 (omega (arith, below)) is

there_from : (rows : List Form) (i : ℕ) (r : Form) → i < length rows → get_or rows i r ≡ r → slice_get rows i ≡ Some r
there_from [] i r below is = absurd (omega (arith, below))
there_from (s ∷ rs) zero r below is = ap (λ (x : Form). Some x) is
there_from (s ∷ rs) (suc i) r below is = there_from rs i r (omega (arith, below)) is

pub alone_there : (rows : List Form) (bounds : List Range) (i : ℕ) (r : Form) (parts more : List Part) (ms lows highs : List ℤ) → is_system rows bounds ≡ true → i < length rows → get_or rows i r ≡ r → ((d : Form) → is_alone bounds (get_or rows i d) ≡ true)
    → parts ≡ r.parts → more ≡ r.parts → ms ≡ bumped (zeros (length rows)) i (pos 1) → lows ≡ dense (length bounds) (map low_part parts) → highs ≡ dense (length bounds) (map high_part more) → Refutes rows bounds ms lows highs
alone_there rows bounds i r parts more ms lows highs s below is single one two rows_are lows_are highs_are =
    subst (λ (xs : List ℤ). Refutes rows bounds xs lows highs) (sym rows_are)
    (subst (λ (xs : List ℤ). Refutes rows bounds (bumped (zeros (length rows)) i (pos 1)) xs highs) (sym (lows_are ∙ ap (λ (ps : List Part). dense (length bounds) (map low_part ps)) one))
    (subst (λ (xs : List ℤ). Refutes rows bounds (bumped (zeros (length rows)) i (pos 1)) (dense (length bounds) (map low_part r.parts)) xs) (sym (highs_are ∙ ap (λ (ps : List Part). dense (length bounds) (map high_part ps)) two))
    (alone_right rows bounds i r s (there_from rows i r below is) (subst (λ (x : Form). is_alone bounds x ≡ true) is (single r)))))

pub open_at_once : (rows : List Form) (bounds : List Range) (turns : ℕ) → turns ≡ 0 → lows_hold rows bounds ≡ false → list_any (is_alone bounds) rows ≡ false → StandsOpen rows bounds turns
open_at_once rows bounds turns none breaks none_alone = subst (λ (k : ℕ). StandsOpen rows bounds k) (sym none) (record {
  lows_break = breaks;
  none_alone = none_alone;
  qs = first_tableau rows bounds;
  runs = refl;
  improves = λ some. absurd (omega (arith, some));
})

-- a row alone is one of them
pub alone_among : (bounds : List Range) (rows : List Form) (i : ℕ) → i < length rows → ((d : Form) → is_alone bounds (get_or rows i d) ≡ true) → list_any (is_alone bounds) rows ≡ true
alone_among bounds [] i below single = absurd (omega (arith, below))
alone_among bounds (r ∷ rs) zero below single = ap (λ (b : Bool). b || list_any (is_alone bounds) rs) (single r)
alone_among bounds (r ∷ rs) (suc i) below single = among (is_alone bounds r) (list_any (is_alone bounds) rs) (alone_among bounds rs i (omega (arith, below)) single)
  where
    among : (a b : Bool) → b ≡ true → (a || b) ≡ true
    among true b h = refl
    among false b h = h
