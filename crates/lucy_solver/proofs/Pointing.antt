-- A box of one point that refutes no clause is a model.
use Rattle.std.proofs.Common.{◌≡◌, Bool, true, false, ◌&&◌, ◌||◌, ℕ, zero, suc, ℤ, pos, ◌*ℤ◌, ◌≤ℤ◌, int_lt, int_le, nat_lt, List, [], ◌∷◌, Some, if◌then◌else◌, length, slice_get, refl, sym, ◌∙◌, ap, arith}
use Rattle.std.proofs.lemmas.Int.{ints}
use Rattle.std.specs.List.{list_all, list_any}
use Rattle.lucy_clauses.specs.declared.parts.Part.{Part}
use Rattle.lucy_clauses.specs.declared.formulas.Clause.{Clause}
use Rattle.lucy_clauses.specs.declared.formulas.Range.{Range}
use Rattle.lucy_clauses.specs.declared.formulas.Formula.{Formula}
use Rattle.lucy_clauses.specs.Sums.{Form, number_at, sum_at, is_true}
use Rattle.lucy_clauses.specs.Formulas.{clause_true, are_within, names_below, Models}
use Rattle.lucy_solver.specs.declared.boxes.Bound.{Bound}
use Rattle.lucy_solver.specs.Boxes.{end_of, reach, least, exceeds, all_exceed, is_fit, all_fit, point, all_single, IsInside, IsBox}
use Rattle.lucy_clauses.proofs.Mapping.{both_tests}
use Rattle.lucy_units.proofs.Lists.{both}
use Rattle.lucy_solver.proofs.Boxing.{place_there}

all_at : {A : Type 0} (p : A → Bool) (xs : List A) (n : ℕ) (x : A) → list_all p xs ≡ true → slice_get xs n ≡ Some x → p x ≡ true
all_at p [] n x h e = absurd (cc)
all_at p (y ∷ xs) zero x h e =
    let same : y ≡ x = cc in
    ap p (sym same) ∙ (both (p y) (list_all p xs) h).0
all_at p (y ∷ xs) (suc n) x h e = all_at p xs n x (both (p y) (list_all p xs) h).1 e

point_at : (bs : List Bound) (v : ℕ) (b : Bound) → slice_get bs v ≡ Some b → number_at (point bs) v ≡ b.lo
point_at [] v b e = absurd (cc)
point_at (c ∷ bs) zero b e =
    let same : c ≡ b = cc in
    ap (λ (b : Bound). b.lo) same
point_at (c ∷ bs) (suc v) b e = point_at bs v b e

-- lower ends are not above upper ends
pub record AreNotEmpty (bs : List Bound) : Type 0 where
  pub some : (v : ℕ) (b : Bound) → slice_get bs v ≡ Some b → b.lo ≤ℤ b.hi

least_is : (bs : List Bound) (ps : List Part) → AreNotEmpty bs → all_single bs ≡ true → names_below (length bs) ps ≡ true → least bs ps ≡ sum_at ps (point bs)
least_is bs [] some single names = refl
least_is bs (p ∷ ps) some single names =
    let there = both (nat_lt p.variable (length bs)) (names_below (length bs) ps) names in
    let at = place_there bs p.variable there.0 in
    let low : number_at (point bs) p.variable ≡ at.0.lo = point_at bs p.variable at.0 at.1 in
    let end : end_of p.by at.0 ≡ at.0.lo = one_end p.by at.0.lo at.0.hi (some.some p.variable at.0 at.1) (all_at (λ (b : Bound). int_le b.hi b.lo) bs p.variable at.0 single at.1) in
    let reached : reach p.by (slice_get bs p.variable) ≡ p.by *ℤ at.0.lo = ap (reach p.by) at.1 ∙ ap (λ (x : ℤ). p.by *ℤ x) end in
    rw (reached, low, least_is bs ps some single there.1) refl
  where
    one_end : (by lo hi : ℤ) → lo ≤ℤ hi → int_le hi lo ≡ true → (if int_lt (pos 0) by then lo else hi) ≡ lo
    one_end by lo hi h e = by_test (int_lt (pos 0) by)
      where
        same : (lo hi : ℤ) → lo ≤ℤ hi → int_le hi lo ≡ true → hi ≡ lo
        same lo hi h e = grind (arith, ints, h, e)

        by_test : (b : Bool) → (if b then lo else hi) ≡ lo
        by_test true = refl
        by_test false = same lo hi h e

atom_holds : (bs : List Bound) (t : Form) → AreNotEmpty bs → all_single bs ≡ true → is_fit bs t ≡ true → exceeds bs t ≡ false → is_true (point bs) t ≡ true
atom_holds bs t some single fits h =
    not_above t.bound (least bs t.parts) (sum_at t.parts (point bs)) (least_is bs t.parts some single (both (names_below (length bs) t.parts) _ fits).0) h
  where
    not_above : (b l s : ℤ) → l ≡ s → int_lt b l ≡ false → int_le s b ≡ true
    not_above b l s e h = grind (arith, ints, e, h)

clause_holds : (bs : List Bound) (ts : List Form) → AreNotEmpty bs → all_single bs ≡ true → list_all (is_fit bs) ts ≡ true → list_all (exceeds bs) ts ≡ false → list_any (is_true (point bs)) ts ≡ true
clause_holds bs [] some single fits h = absurd (cc)
clause_holds bs (t ∷ ts) some single fits h = by_test (clause_holds bs ts some single parts.1) (exceeds bs t) refl h
  where
    parts : (is_fit bs t ≡ true) × (list_all (is_fit bs) ts ≡ true)
    parts = both (is_fit bs t) (list_all (is_fit bs) ts) fits

    later : (b c : Bool) → c ≡ true → (b || c) ≡ true
    later true c e = refl
    later false c e = e

    by_test : (list_all (exceeds bs) ts ≡ false → list_any (is_true (point bs)) ts ≡ true) → (b : Bool) → exceeds bs t ≡ b → (b && list_all (exceeds bs) ts) ≡ false → (is_true (point bs) t || list_any (is_true (point bs)) ts) ≡ true
    by_test next true e h = later (is_true (point bs) t) (list_any (is_true (point bs)) ts) (next h)
    by_test next false e h = rw (atom_holds bs t some single parts.0 e) refl

clauses_hold : (bs : List Bound) (cs : List Clause) → AreNotEmpty bs → all_single bs ≡ true → all_fit bs cs ≡ true → list_any (all_exceed bs) cs ≡ false → list_all (clause_true (point bs)) cs ≡ true
clauses_hold bs [] some single fits h = refl
clauses_hold bs (c ∷ cs) some single fits h = by_test (clauses_hold bs cs some single parts.1) (all_exceed bs c) refl h
  where
    parts : (list_all (is_fit bs) c.atoms ≡ true) × (all_fit bs cs ≡ true)
    parts = both (list_all (is_fit bs) c.atoms) (all_fit bs cs) fits

    by_test : (list_any (all_exceed bs) cs ≡ false → list_all (clause_true (point bs)) cs ≡ true) → (b : Bool) → all_exceed bs c ≡ b → (b || list_any (all_exceed bs) cs) ≡ false → list_all (clause_true (point bs)) (c ∷ cs) ≡ true
    by_test next true e h = absurd (cc)
    by_test next false e h = rw (clause_holds bs c.atoms some single parts.0 e, next h) refl

within_ranges : (rs : List Range) (bs : List Bound) → length bs ≡ length rs → ((v : ℕ) (r : Range) (b : Bound) → slice_get rs v ≡ Some r → slice_get bs v ≡ Some b → IsInside r b) → are_within rs (point bs) ≡ true
within_ranges [] [] e h = refl
within_ranges [] (b ∷ bs) e h = absurd (omega (arith, e))
within_ranges (r ∷ rs) [] e h = absurd (omega (arith, e))
within_ranges (r ∷ rs) (b ∷ bs) e h =
    let i = h 0 r b refl refl in
    let rest : are_within rs (point bs) ≡ true = within_ranges rs bs (omega (arith, e)) (λ v r b e g. h (suc v) r b e g) in
    rw (low_test r.lo b.lo i.low, high_test b.lo b.hi r.hi i.some i.high, rest) refl
  where
    low_test : (a b : ℤ) → a ≤ℤ b → int_le a b ≡ true
    low_test a b h = grind (arith, ints, h)

    high_test : (a b c : ℤ) → a ≤ℤ b → b ≤ℤ c → int_le a c ≡ true
    high_test a b c h g = grind (arith, ints, h, g)

pub there_too : {A B : Type 0} (xs : List A) (ys : List B) (v : ℕ) (x : A) → length xs ≡ length ys → slice_get xs v ≡ Some x → (y : B) × (slice_get ys v ≡ Some y)
there_too [] ys v x e h = absurd (cc)
there_too (z ∷ xs) [] v x e h = absurd (omega (arith, e))
there_too (z ∷ xs) (y ∷ ys) zero x e h = (y, refl)
there_too (z ∷ xs) (y ∷ ys) (suc v) x e h = there_too xs ys v x (omega (arith, e)) h

pub not_empty : (ranges : List Range) (ds : List Form) (bs : List Bound) → IsBox ranges ds bs → AreNotEmpty bs
not_empty ranges ds bs box =
    record { some = λ v b e. (let r = there_too bs ranges v b box.count e in ((box.each v b e).inside r.0 r.1).some) }

pub point_models : (f : Formula) (ds : List Form) (bs : List Bound) → IsBox f.ranges ds bs → all_single bs ≡ true → all_fit bs f.clauses ≡ true → list_any (all_exceed bs) f.clauses ≡ false → Models f (point bs)
point_models f ds bs box single fits h =
    both_tests (are_within f.ranges (point bs)) (list_all (clause_true (point bs)) f.clauses) (within_ranges f.ranges bs box.count (λ v r b e g. (box.each v b g).inside r e)) (clauses_hold bs f.clauses (not_empty f.ranges ds bs box) single fits h)
