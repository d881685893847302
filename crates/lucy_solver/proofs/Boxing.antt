-- The sum that takes an atom apart over a box.
use Rattle.std.proofs.Common.{◌≡◌, Bool, true, false, not, ◌==◌, ℕ, ◌+◌, ◌*◌, ◌≤◌, ◌^◌, zero, suc, ℤ, pos, negsuc, neg_ℤ, ◌-ℤ◌, ◌+ℤ◌, ◌*ℤ◌, ◌<ℤ◌, int_lt, nat_lt, List, [], ◌∷◌, ◌++◌, Option, Some, Result, Ok, if◌then◌else◌, length, slice_get, refl, ◌∙◌, ap, arith, append_assoc, append-nil}
use Rattle.std.proofs.lemmas.Int.{ints}
use Rattle.std.specs.Prelude.{unsigned_abs}
use Rattle.std.specs.Ordering.{int_eq}
use Rattle.std.specs.List.{list_all}
use Rattle.std.proofs.lemmas.Bool.Decides.{nat_tests, Decides-int_eq, Decides-eqb}
use borrow.Author.Differences.{up, down, neg_is}
use Rattle.lucy_clauses.specs.declared.parts.Part.{Part}
use Rattle.lucy_clauses.specs.Sums.{Form, form}
use Rattle.lucy_clauses.specs.declared.formulas.Range.{Range}
use Rattle.lucy_clauses.specs.Formulas.{names_below}
use Rattle.lucy_clauses.specs.Parts.{is_within, all_within, put, put_any, above, ascends, none_zero}
use Rattle.lucy_clauses.specs.declared.lines.Ref.{Ref}
use Rattle.lucy_clauses.specs.Lines.{Unjustified, form_of_ref, one_variable, multiple, put_multiples, added_ref, then_form, sum_form}
use Rattle.lucy_solver.specs.declared.boxes.Bound.{Bound}
use Rattle.lucy_solver.specs.Boxes.{reach, least, reaches, taking, takings, times_of}
use Rattle.lucy_units.proofs.Lists.{both}

-- ---- tests
not_equal : (x : ℤ) → (x ≡ pos 0 → ⊥) → int_eq x (pos 0) ≡ false
not_equal x h = by_test (int_eq x (pos 0)) (Decides-int_eq x (pos 0)).0
  where
    by_test : (b : Bool) → (b ≡ true → x ≡ pos 0) → b ≡ false
    by_test true f = absurd (h (f refl))
    by_test false f = refl

is_not : (x : ℤ) → not (int_eq x (pos 0)) ≡ true → x ≡ pos 0 → ⊥
is_not x h e = by_test (int_eq x (pos 0)) ((Decides-int_eq x (pos 0)).1 e) h
  where
    by_test : (b : Bool) → b ≡ true → not b ≡ true → ⊥
    by_test true e h = cc
    by_test false e h = cc

not_below : (a b : ℕ) → nat_lt a b ≡ true → nat_lt b a ≡ false
not_below a b h = grind (arith, nat_tests, h)

not_below_self : (a : ℕ) → nat_lt a a ≡ false
not_below_self a = grind (arith, nat_tests)

not_same : (a b : ℕ) → nat_lt a b ≡ true → (b == a) ≡ false
not_same a b h = by_test (b == a) (Decides-eqb b a).0
  where
    apart : b ≡ a → ⊥
    apart e = grind (arith, nat_tests, h, e)

    by_test : (c : Bool) → (c ≡ true → b ≡ a) → c ≡ false
    by_test true f = absurd (apart (f refl))
    by_test false f = refl

-- ---- ascending parts, put one by one into nothing
put-last : (q : Part) (before rest : List Part) → list_all (λ (p : Part). above p.variable (q ∷ rest)) before ≡ true → put q before ≡ before ++ q ∷ []
put-last q [] rest h = refl
put-last q (p ∷ before) rest h =
    let parts = both (above p.variable (q ∷ rest)) (list_all (λ (p : Part). above p.variable (q ∷ rest)) before) h in
    let lt : nat_lt p.variable q.variable ≡ true = (both (nat_lt p.variable q.variable) (above p.variable rest) parts.0).0 in
    rw (not_below p.variable q.variable lt, not_same p.variable q.variable lt, put-last q before rest parts.1) refl

tails_above : (q : Part) (before rest : List Part) → list_all (λ (p : Part). above p.variable (q ∷ rest)) before ≡ true → above q.variable rest ≡ true → list_all (λ (p : Part). above p.variable rest) (before ++ q ∷ []) ≡ true
tails_above q [] rest h e = rw e refl
tails_above q (p ∷ before) rest h e =
    let parts = both (above p.variable (q ∷ rest)) (list_all (λ (p : Part). above p.variable (q ∷ rest)) before) h in
    let one : above p.variable rest ≡ true = (both (nat_lt p.variable q.variable) (above p.variable rest) parts.0).1 in
    rw (one, tails_above q before rest parts.1 e) refl

within-append : (xs ys : List Part) → all_within xs ≡ true → all_within ys ≡ true → all_within (xs ++ ys) ≡ true
within-append [] ys h e = e
within-append (x ∷ xs) ys h e =
    let parts = both (is_within x.by) (all_within xs) h in
    rw (parts.0, within-append xs ys parts.1 e) refl

once : (p : Part) → multiple (pos 1) p ≡ p
once p =
    let by : pos 1 *ℤ p.by ≡ p.by = omega (arith, ints) in
    rw by refl

pub put_once : (ps before : List Part) → list_all (λ (p : Part). above p.variable ps) before ≡ true → ascends ps ≡ true → none_zero ps ≡ true → all_within ps ≡ true → all_within before ≡ true → put_multiples (pos 1) ps before ≡ Some (before ++ ps)
put_once [] before h asc nonzero within old = rw (append-nil before) refl
put_once (p ∷ ps) before h asc nonzero within old =
    let order = both (above p.variable ps) (ascends ps) asc in
    let numbers = both (not (int_eq p.by (pos 0))) (none_zero ps) nonzero in
    let sizes = both (is_within p.by) (all_within ps) within in
    let by : pos 1 *ℤ p.by ≡ p.by = omega (arith, ints) in
    let used : int_eq p.by (pos 0) ≡ false = not_equal p.by (is_not p.by numbers.0) in
    let last : put p before ≡ before ++ p ∷ [] = put-last p before ps h in
    let one : all_within (p ∷ []) ≡ true = rw sizes.0 refl in
    let longer : all_within (before ++ p ∷ []) ≡ true = within-append before (p ∷ []) old one in
    let next : put_multiples (pos 1) ps (before ++ p ∷ []) ≡ Some ((before ++ p ∷ []) ++ ps) = put_once ps (before ++ p ∷ []) (tails_above p before ps h order.0) order.1 numbers.1 sizes.1 longer in
    rw (once p, by, used, last, sizes.0, longer, next) (ap (λ (xs : List Part). let r : Option (List Part) = Some xs in r) (append_assoc before (p ∷ []) ps))

-- ---- one part taken off
cancels : (q p : Part) (ps : List Part) → q.variable ≡ p.variable → q.by ≡ neg_ℤ p.by → (p.by ≡ pos 0 → ⊥) → put_any q (p ∷ ps) ≡ ps
cancels q p ps v e nonzero =
    let used : int_eq q.by (pos 0) ≡ false = not_equal q.by (λ z. nonzero (turned p.by q.by e z)) in
    let apart : nat_lt q.variable p.variable ≡ false = ap (λ (n : ℕ). nat_lt n p.variable) v ∙ not_below_self p.variable in
    let same : (q.variable == p.variable) ≡ true = (Decides-eqb q.variable p.variable).1 v in
    let sum : p.by +ℤ q.by ≡ pos 0 = omega (arith, ints, e) in
    let gone : int_eq (p.by +ℤ q.by) (pos 0) ≡ true = (Decides-int_eq (p.by +ℤ q.by) (pos 0)).1 sum in
    rw (used, apart, same, gone) refl
  where
    turned : (x y : ℤ) → y ≡ neg_ℤ x → y ≡ pos 0 → x ≡ pos 0
    turned x y e z = omega (arith, ints, e, z)

small : (x : ℤ) → unsigned_abs x ≤ 2 ^ 101 → is_within x ≡ true
small x h = grind (arith, nat_tests, h)

negative_within : (x y : ℤ) → x ≡ neg_ℤ y → is_within y ≡ true → is_within x ≡ true
negative_within x y e h =
    let same : unsigned_abs x ≡ unsigned_abs y = rw e (grind (arith, ints)) in
    rw same h

pub taken_one : (atoms : List Form) (ranges : List Range) (m s c r b : ℤ) (of : Ref) (p : Part) (ps : List Part) → form_of_ref atoms ranges [] of ≡ Some (one_variable p.variable s c) → m *ℤ s ≡ neg_ℤ p.by → m *ℤ c ≡ neg_ℤ r → pos 0 <ℤ m → (p.by ≡ pos 0 → ⊥) → all_within (p ∷ ps) ≡ true → unsigned_abs b + unsigned_abs r ≤ 2 ^ 100 → added_ref m (form_of_ref atoms ranges [] of) (record { parts = p ∷ ps; bound = b }) ≡ Ok (record { parts = ps; bound = b -ℤ r })
taken_one atoms ranges m s c r b of p ps form factor value positive nonzero within size =
    let sizes = both (is_within p.by) (all_within ps) within in
    let q : Part = record { variable = p.variable; by = m *ℤ s } in
    let gone : put_any q (p ∷ ps) ≡ ps = cancels q p ps refl factor nonzero in
    let first : is_within (m *ℤ s) ≡ true = negative_within (m *ℤ s) p.by factor sizes.0 in
    let put : put_multiples m (record { variable = p.variable; by = s } ∷ []) (p ∷ ps) ≡ Some ps = rw (gone, first, sizes.1) refl in
    let product : is_within (m *ℤ c) ≡ true = small (m *ℤ c) (product_small (m *ℤ c) r b value size) in
    let total : b +ℤ m *ℤ c ≡ b -ℤ r = omega (arith, ints, value) in
    let sum : is_within (b -ℤ r) ≡ true = small (b -ℤ r) (difference_small b r size) in
    let sign : int_lt (pos 0) m ≡ true = above_zero m positive in
    rw (form, put, product, total, sum, sign) refl
  where
    product_small : (x r b : ℤ) → x ≡ neg_ℤ r → unsigned_abs b + unsigned_abs r ≤ 2 ^ 100 → unsigned_abs x ≤ 2 ^ 101
    product_small x r b e h = rw e (grind (arith, ints, h))

    difference_small : (b r : ℤ) → unsigned_abs b + unsigned_abs r ≤ 2 ^ 100 → unsigned_abs (b -ℤ r) ≤ 2 ^ 101
    difference_small b r h = grind (arith, ints, h)

    above_zero : (m : ℤ) → pos 0 <ℤ m → int_lt (pos 0) m ≡ true
    above_zero m h = grind (arith, ints, h)

-- ---- all parts taken off
-- the references say, over the atoms of a clause, that the variables are within the box
pub record AreForms (atoms : List Form) (ranges : List Range) (bs : List Bound) : Type 0 where
  pub low : (v : ℕ) (b : Bound) → slice_get bs v ≡ Some b → form_of_ref atoms ranges [] b.low ≡ Some (one_variable v (negsuc 0) (neg_ℤ b.lo))
  pub high : (v : ℕ) (b : Bound) → slice_get bs v ≡ Some b → form_of_ref atoms ranges [] b.high ≡ Some (one_variable v (pos 1) b.hi)

taken_bound : (atoms : List Form) (ranges : List Range) (x b : ℤ) (p : Part) (ps : List Part) (bd : Bound) → form_of_ref atoms ranges [] bd.low ≡ Some (one_variable p.variable (negsuc 0) (neg_ℤ bd.lo)) → form_of_ref atoms ranges [] bd.high ≡ Some (one_variable p.variable (pos 1) bd.hi) → (p.by ≡ pos 0 → ⊥) → all_within (p ∷ ps) ≡ true → x ≡ reach p.by (Some bd) → unsigned_abs b + unsigned_abs x ≤ 2 ^ 100 → added_ref (taking p.by (Some bd)).by (form_of_ref atoms ranges [] (taking p.by (Some bd)).of) (record { parts = p ∷ ps; bound = b }) ≡ Ok (record { parts = ps; bound = b -ℤ x })
taken_bound atoms ranges x b p ps bd low high nonzero within value size = by_sign (int_lt (pos 0) p.by) refl value
  where
    is_above : int_lt (pos 0) p.by ≡ true → pos 0 <ℤ p.by
    is_above e = of_test p.by e
      where
        of_test : (y : ℤ) → int_lt (pos 0) y ≡ true → pos 0 <ℤ y
        of_test y e = grind (arith, ints, e)

    is_below : int_lt (pos 0) p.by ≡ false → pos 0 <ℤ neg_ℤ p.by
    is_below e = of_test p.by e nonzero
      where
        of_test : (y : ℤ) → int_lt (pos 0) y ≡ false → (y ≡ pos 0 → ⊥) → pos 0 <ℤ neg_ℤ y
        of_test (pos zero) e f = absurd (f refl)
        of_test (pos (suc n)) e f = absurd (bad n e)
          where
            bad : (n : ℕ) → int_lt (pos 0) (pos (suc n)) ≡ false → ⊥
            bad n e = grind (arith, ints, e)
        of_test (negsuc n) e f = omega (arith, ints)

    low_value : (y lo x : ℤ) → x ≡ y *ℤ lo → y *ℤ neg_ℤ lo ≡ neg_ℤ x
    low_value y lo x e = rw e (omega (arith, ints, ap (λ (n : ℕ). up y * n) (neg_is lo).0, ap (λ (n : ℕ). down y * n) (neg_is lo).0, ap (λ (n : ℕ). up y * n) (neg_is lo).1, ap (λ (n : ℕ). down y * n) (neg_is lo).1))

    high_value : (y hi x : ℤ) → x ≡ y *ℤ hi → neg_ℤ y *ℤ hi ≡ neg_ℤ x
    high_value y hi x e = rw e (omega (arith, ints, ap (λ (n : ℕ). n * up hi) (neg_is y).0, ap (λ (n : ℕ). n * down hi) (neg_is y).0, ap (λ (n : ℕ). n * up hi) (neg_is y).1, ap (λ (n : ℕ). n * down hi) (neg_is y).1))

    minus_one : (y : ℤ) → y *ℤ negsuc 0 ≡ neg_ℤ y
    minus_one y = omega (arith, ints)

    one : (y : ℤ) → neg_ℤ y *ℤ pos 1 ≡ neg_ℤ y
    one y = omega (arith, ints)

    by_sign : (t : Bool) → int_lt (pos 0) p.by ≡ t → x ≡ p.by *ℤ (if t then bd.lo else bd.hi) → added_ref (if t then times_of p.by bd.low else times_of (neg_ℤ p.by) bd.high).by (form_of_ref atoms ranges [] (if t then times_of p.by bd.low else times_of (neg_ℤ p.by) bd.high).of) (record { parts = p ∷ ps; bound = b }) ≡ Ok (record { parts = ps; bound = b -ℤ x })
    by_sign true e v = taken_one atoms ranges p.by (negsuc 0) (neg_ℤ bd.lo) x b bd.low p ps low (minus_one p.by) (low_value p.by bd.lo x v) (is_above e) nonzero within size
    by_sign false e v = taken_one atoms ranges (neg_ℤ p.by) (pos 1) bd.hi x b bd.high p ps high (one p.by) (high_value p.by bd.hi x v) (is_below e) nonzero within size

pub place_there : {A : Type 0} (xs : List A) (n : ℕ) → nat_lt n (length xs) ≡ true → (x : A) × (slice_get xs n ≡ Some x)
place_there [] n h = absurd (none n h)
  where
    none : (n : ℕ) → nat_lt n 0 ≡ true → ⊥
    none n h = grind (arith, nat_tests, h)
place_there (x ∷ xs) zero h = (x, refl)
place_there (x ∷ xs) (suc n) h = place_there xs n (lower n (length xs) h)
  where
    lower : (n m : ℕ) → nat_lt (suc n) (suc m) ≡ true → nat_lt n m ≡ true
    lower n m h = grind (arith, nat_tests, h)

pub taken_off : (atoms : List Form) (ranges : List Range) (bs : List Bound) (b : ℤ) (ps : List Part) → AreForms atoms ranges bs → names_below (length bs) ps ≡ true → none_zero ps ≡ true → all_within ps ≡ true → unsigned_abs b + reaches bs ps ≤ 2 ^ 100 → sum_form atoms ranges [] (takings bs ps) (record { parts = ps; bound = b }) ≡ Ok (record { parts = []; bound = b -ℤ least bs ps })
taken_off atoms ranges bs b [] forms names nonzero within size =
    let same : b -ℤ pos 0 ≡ b = omega (arith, ints) in
    rw same refl
taken_off atoms ranges bs b (p ∷ ps) forms names nonzero within size =
    let there = both (nat_lt p.variable (length bs)) (names_below (length bs) ps) names in
    let numbers = both (not (int_eq p.by (pos 0))) (none_zero ps) nonzero in
    let sizes = both (is_within p.by) (all_within ps) within in
    let at = place_there bs p.variable there.0 in
    let x : ℤ = reach p.by (slice_get bs p.variable) in
    let is : x ≡ reach p.by (Some at.0) = ap (reach p.by) at.1 in
    let first : added_ref (taking p.by (Some at.0)).by (form_of_ref atoms ranges [] (taking p.by (Some at.0)).of) (record { parts = p ∷ ps; bound = b }) ≡ Ok (record { parts = ps; bound = b -ℤ x }) = taken_bound atoms ranges x b p ps at.0 (forms.low p.variable at.0 at.1) (forms.high p.variable at.0 at.1) (is_not p.by numbers.0) within is (head_small b x (reaches bs ps) size) in
    let next : sum_form atoms ranges [] (takings bs ps) (record { parts = ps; bound = b -ℤ x }) ≡ Ok (record { parts = []; bound = (b -ℤ x) -ℤ least bs ps }) = taken_off atoms ranges bs (b -ℤ x) ps forms there.1 numbers.1 sizes.1 (tail_small b x (reaches bs ps) size) in
    let total : (b -ℤ x) -ℤ least bs ps ≡ b -ℤ (x +ℤ least bs ps) = omega (arith, ints) in
    let step : added_ref (taking p.by (slice_get bs p.variable)).by (form_of_ref atoms ranges [] (taking p.by (slice_get bs p.variable)).of) (record { parts = p ∷ ps; bound = b }) ≡ Ok (record { parts = ps; bound = b -ℤ x }) = ap (λ (o : Option Bound). added_ref (taking p.by o).by (form_of_ref atoms ranges [] (taking p.by o).of) (record { parts = p ∷ ps; bound = b })) at.1 ∙ first in
    ap (λ (o : Result Form Unjustified). then_form o (sum_form atoms ranges [] (takings bs ps))) step ∙ next ∙ ap (λ (z : ℤ). let r : Result Form Unjustified = Ok (record { parts = []; bound = z }) in r) total
  where
    head_small : (b x : ℤ) (w : ℕ) → unsigned_abs b + (unsigned_abs x + w) ≤ 2 ^ 100 → unsigned_abs b + unsigned_abs x ≤ 2 ^ 100
    head_small b x w h = omega (arith, h)

    tail_small : (b x : ℤ) (w : ℕ) → unsigned_abs b + (unsigned_abs x + w) ≤ 2 ^ 100 → unsigned_abs (b -ℤ x) + w ≤ 2 ^ 100
    tail_small b x w h = grind (arith, ints, h)
