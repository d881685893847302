-- Steps that can be written into a certificate.
use Rattle.std.proofs.Common.{◌≡◌, Bool, true, false, not, ◌&&◌, ◌==◌, ℕ, zero, suc, ◌+◌, ◌<◌, ◌≤◌, ◌^◌, nat_lt, nat_le, ℤ, pos, negsuc, neg_ℤ, ◌-ℤ◌, ◌<ℤ◌, int_lt, List, [], ◌∷◌, ◌++◌, map, Option, Some, IsTrue, if◌then◌else◌, length, slice_get, get_or, refl, sym, ◌∙◌, ap, subst, arith}
use Rattle.std.proofs.lemmas.Int.{ints}
use Rattle.std.proofs.lemmas.List.{map-append}
use Rattle.std.specs.Prelude.{unsigned_abs}
use Rattle.std.specs.Ordering.{int_eq}
use Rattle.std.specs.List.{list_all}
use Rattle.std.proofs.lemmas.Bool.Decides.{nat_tests}
use Rattle.lucy_clauses.specs.declared.parts.Part.{Part}
use Rattle.lucy_clauses.specs.declared.formulas.Clause.{Clause}
use Rattle.lucy_clauses.specs.declared.lines.Times.{Times}
use Rattle.lucy_clauses.specs.Sums.{Form, form, negative_part, complement}
use Rattle.lucy_clauses.specs.Formulas.{names_below}
use Rattle.lucy_clauses.specs.Lines.{one_variable}
use Rattle.lucy_clauses.specs.Normal.{IsNormal, is_normal}
use Rattle.lucy_clauses.specs.Parts.{is_within, all_within, none_zero}
use Rattle.lucy_clauses.proofs.Divisors.{normal_negative}
use Rattle.lucy_clauses.proofs.NormalTests.{normal_test}
use Rattle.lucy_cert.specs.Writable.{part_fits, atom_fits, clause_fits, ref_fits, pair_fits, times_fits, number_fits}
use Rattle.lucy_solver.specs.declared.boxes.Bound.{Bound}
use Rattle.lucy_solver.specs.Boxes.{taking, takings, times_of}
use Rattle.lucy_solver.specs.Shows.{names_all_below, is_sound, are_sound, atom_times}
use Rattle.lucy_units.proofs.Lists.{both}
use Rattle.lucy_solver.proofs.Boxing.{place_there}

-- ---- sound atoms
pub names_of_sound : (n : ℕ) (ts : List Form) → are_sound n ts ≡ true → names_all_below n ts ≡ true
names_of_sound n [] h = refl
names_of_sound n (t ∷ ts) h =
    let parts = both (is_sound n t) (are_sound n ts) h in
    let own = both (names_below n t.parts) (atom_fits (complement t)) parts.0 in
    rw (own.0, names_of_sound n ts parts.1) refl

pub denial_fits : (n : ℕ) (ts : List Form) → are_sound n ts ≡ true → list_all atom_fits (map complement ts) ≡ true
denial_fits n [] h = refl
denial_fits n (t ∷ ts) h =
    let parts = both (is_sound n t) (are_sound n ts) h in
    let own = both (names_below n t.parts) (atom_fits (complement t)) parts.0 in
    rw (own.1, denial_fits n ts parts.1) refl

-- ---- the complement of an atom of the formula
negative_fits : (x : ℤ) → is_within x ≡ true → is_within (neg_ℤ x) ≡ true
negative_fits x h =
    let same : unsigned_abs (neg_ℤ x) ≡ unsigned_abs x = grind (arith, ints) in
    rw same h

parts_fit : (n : ℕ) (ps : List Part) → n < 2 ^ 32 → names_below n ps ≡ true → all_within ps ≡ true → list_all part_fits (map negative_part ps) ≡ true
parts_fit n [] few names within = refl
parts_fit n (p ∷ ps) few names within =
    let own = both (nat_lt p.variable n) (names_below n ps) names in
    let sizes = both (is_within p.by) (all_within ps) within in
    let small : nat_lt p.variable (2 ^ 32) ≡ true = below p.variable n own.0 few in
    rw (negative_fits p.by sizes.0, small, parts_fit n ps few own.1 sizes.1) refl
  where
    below : (v n : ℕ) → nat_lt v n ≡ true → n < 2 ^ 32 → nat_lt v (2 ^ 32) ≡ true
    below v n h few = grind (arith, nat_tests, h, few)

pub complement_fits : (n : ℕ) (t : Form) → n < 2 ^ 32 → names_below n t.parts ≡ true → IsNormal t.parts → unsigned_abs t.bound ≤ 2 ^ 101 → atom_fits (complement t) ≡ true
complement_fits n t few names normal small =
    let shape : is_normal (map negative_part t.parts) ≡ true = (normal_test (map negative_part t.parts)).1 (normal_negative t.parts normal) in
    let bound : is_within (neg_ℤ t.bound -ℤ pos 1) ≡ true = within t.bound small in
    rw (shape, bound, parts_fit n t.parts few names normal.within) refl
  where
    within : (b : ℤ) → unsigned_abs b ≤ 2 ^ 101 → is_within (neg_ℤ b -ℤ pos 1) ≡ true
    within b h = grind (arith, ints, nat_tests, h)

-- ---- what takes the parts of an atom off
taking_fits : (by : ℤ) (b : Bound) → int_eq by (pos 0) ≡ false → is_within by ≡ true → ref_fits b.low ≡ true → ref_fits b.high ≡ true → times_fits (taking by (Some b)) ≡ true
taking_fits by b nonzero within low high = by_sign (int_lt (pos 0) by) refl
  where
    above : int_lt (pos 0) by ≡ false → int_lt (pos 0) (neg_ℤ by) ≡ true
    above e = grind (arith, ints, nat_tests, e, nonzero)

    by_sign : (t : Bool) → int_lt (pos 0) by ≡ t → times_fits (if t then times_of by b.low else times_of (neg_ℤ by) b.high) ≡ true
    by_sign true e = rw (within, e, low) refl
    by_sign false e = rw (negative_fits by within, above e, high) refl

-- the references of bounds can be written
pub record AreWritten (bs : List Bound) : Type 0 where
  pub low : (v : ℕ) (b : Bound) → slice_get bs v ≡ Some b → ref_fits b.low ≡ true
  pub high : (v : ℕ) (b : Bound) → slice_get bs v ≡ Some b → ref_fits b.high ≡ true

pub takings_fit : (bs : List Bound) (ps : List Part) → AreWritten bs → names_below (length bs) ps ≡ true → none_zero ps ≡ true → all_within ps ≡ true → list_all times_fits (takings bs ps) ≡ true
takings_fit bs [] w names nonzero within = refl
takings_fit bs (p ∷ ps) w names nonzero within =
    let there = both (nat_lt p.variable (length bs)) (names_below (length bs) ps) names in
    let numbers = both (not (int_eq p.by (pos 0))) (none_zero ps) nonzero in
    let sizes = both (is_within p.by) (all_within ps) within in
    let at = place_there bs p.variable there.0 in
    let first : times_fits (taking p.by (slice_get bs p.variable)) ≡ true = ap (λ (o : Option Bound). times_fits (taking p.by o)) at.1 ∙ taking_fits p.by at.0 (is_not (int_eq p.by (pos 0)) numbers.0) sizes.0 (w.low p.variable at.0 at.1) (w.high p.variable at.0 at.1) in
    rw (first, takings_fit bs ps w there.1 numbers.1 sizes.1) refl
  where
    is_not : (b : Bool) → not b ≡ true → b ≡ false
    is_not true h = cc
    is_not false h = refl

pub times_fit : (place : ℕ) (bs : List Bound) (ps : List Part) → place < 2 ^ 32 → AreWritten bs → names_below (length bs) ps ≡ true → none_zero ps ≡ true → all_within ps ≡ true → list_all times_fits (atom_times place bs ps) ≡ true
times_fit place bs ps small w names nonzero within =
    let first : nat_lt place (2 ^ 32) ≡ true = grind (arith, nat_tests, small) in
    rw (first, takings_fit bs ps w names nonzero within) refl

-- ---- hints
pub numbers_fit : (ns : List ℕ) → ((k : ℕ) → get_or ns k 0 < 2 ^ 64) → list_all number_fits ns ≡ true
numbers_fit [] h = refl
numbers_fit (n ∷ ns) h =
    let first : nat_lt n (2 ^ 64) ≡ true = at_first n (h 0) in
    rw (first, numbers_fit ns (λ k. h (suc k))) refl
  where
    at_first : (n : ℕ) → n < 2 ^ 64 → nat_lt n (2 ^ 64) ≡ true
    at_first n h = grind (arith, nat_tests, h)

-- ---- the atoms of a halving
pub split_sound : (n v : ℕ) (m : ℤ) → n < 2 ^ 32 → v < n → unsigned_abs m ≤ 2 ^ 63 → is_sound n (one_variable v (pos 1) m) ≡ true
split_sound n v m few below small =
    let own : nat_lt v n ≡ true = grind (arith, nat_tests, below) in
    let all : nat_lt v (2 ^ 32) ≡ true = grind (arith, nat_tests, below, few) in
    let bound : is_within (neg_ℤ m -ℤ pos 1) ≡ true = within m small in
    rw (own, bound, all) refl
  where
    within : (m : ℤ) → unsigned_abs m ≤ 2 ^ 63 → is_within (neg_ℤ m -ℤ pos 1) ≡ true
    within m h = grind (arith, ints, nat_tests, h)

pub other_sound : (n v : ℕ) (m : ℤ) → n < 2 ^ 32 → v < n → unsigned_abs m ≤ 2 ^ 63 → is_sound n (complement (one_variable v (pos 1) m)) ≡ true
other_sound n v m few below small =
    let own : nat_lt v n ≡ true = grind (arith, nat_tests, below) in
    let all : nat_lt v (2 ^ 32) ≡ true = grind (arith, nat_tests, below, few) in
    let bound : is_within (neg_ℤ (neg_ℤ m -ℤ pos 1) -ℤ pos 1) ≡ true = within m small in
    rw (own, bound, all) refl
  where
    within : (m : ℤ) → unsigned_abs m ≤ 2 ^ 63 → is_within (neg_ℤ (neg_ℤ m -ℤ pos 1) -ℤ pos 1) ≡ true
    within m h = grind (arith, ints, nat_tests, h)
