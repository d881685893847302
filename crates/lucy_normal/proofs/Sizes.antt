-- The atoms of a condition's normal conditions are small.
use Rattle.std.proofs.Common.{◌≡◌, ℕ, zero, suc, ◌+◌, ◌*◌, ◌/◌, ◌<◌, ◌≤◌, ◌^◌, ◌==◌, nat_lt, nat_le, Bool, true, false, if◌then◌else◌, ◌&&◌, ℤ, pos, negsuc, neg_ℤ, int_le, ◌-ℤ◌, unsigned_abs, List, [], ◌∷◌, length, map, refl, sym, ap, ◌∙◌, subst, arith}
use Rattle.std.specs.Int.{int_div_euclid}
use Rattle.std.proofs.lemmas.Int.{ints, unsigned_abs-mul}
use Rattle.std.proofs.lemmas.Bool.Decides.{nat_tests}
use Rattle.lucy_clauses.specs.declared.parts.Part.{Part}
use Rattle.lucy_clauses.specs.Sums.{Form, scaled, negative_part}
use Rattle.lucy_clauses.specs.Parts.{is_zero, sum_part, grown, put, put_any, gathered_onto, gathered, stays_within, total_size}
use Rattle.lucy_clauses.specs.Formulas.{names_below}
use Rattle.lucy_clauses.proofs.GatheredParts.{size-put_any}
use Rattle.lucy_clauses.specs.Normal.{IsNormalForm}
use Rattle.lucy_model.specs.declared.terms.Share.{Share}
use Rattle.lucy_model.specs.declared.terms.Term.{Term}
use Rattle.lucy_model.specs.declared.conditions.Op.{Op}
use Rattle.lucy_model.specs.declared.conditions.Op.TheVariants as op
use Rattle.lucy_model.specs.Terms.{is_term}
use Rattle.lucy_normal.specs.declared.normals.Normal.{All, Any}
use Rattle.lucy_clauses.specs.Dividing.{common_divisor, divided_by}
use Rattle.lucy_normal.specs.Linear.{bounded, linear}
use Rattle.lucy_model.specs.Opposites.{opposite}
use Rattle.lucy_normal.specs.Normals.{placed_all, are_slots, below, above, compared, flag, signed_comparison}
use Rattle.lucy_normal.specs.Shapes.{each_atom, is_over, is_small}
use Rattle.lucy_normal.proofs.Tests.{two, both}
use Rattle.lucy_normal.proofs.NormalForms.{defined_form}
use Rattle.lucy_normal.proofs.Slots.{plain_term, term_slots, term_small, term_stays, term_stays_negative, size-negative}
use Rattle.lucy_normal.proofs.AtomsPass.{each_lone, each_all, each_any, each_all_of, each_any_of}

-- ---- gathered parts

names-grown : (n : ℕ) (p : Part) (ps : List Part) → nat_lt p.variable n ≡ true → names_below n ps ≡ true → names_below n (grown p ps) ≡ true
names-grown n p ps h k = by_test (is_zero p)
  where
    by_test : (b : Bool) → names_below n (if b then ps else (p ∷ ps)) ≡ true
    by_test true = k
    by_test false = both (nat_lt p.variable n) (names_below n ps) h k

names-put : (n : ℕ) (q : Part) (ps : List Part) → nat_lt q.variable n ≡ true → names_below n ps ≡ true → names_below n (put q ps) ≡ true
names-put n q [] h k = both (nat_lt q.variable n) true h refl
names-put n q (p ∷ ps) h k =
    let t = two (nat_lt p.variable n) (names_below n ps) k in
    by_tests (nat_lt q.variable p.variable) (q.variable == p.variable) t.0 (names-grown n (sum_part p q) ps h t.1) (names-put n q ps h t.1)
  where
    by_tests : (b c : Bool) → nat_lt p.variable n ≡ true → names_below n (grown (sum_part p q) ps) ≡ true → names_below n (put q ps) ≡ true →
        names_below n (if b then (q ∷ p ∷ ps) else (if c then grown (sum_part p q) ps else (p ∷ put q ps))) ≡ true
    by_tests true c first met more = both (nat_lt q.variable n) (names_below n (p ∷ ps)) h k
    by_tests false true first met more = met
    by_tests false false first met more = both (nat_lt p.variable n) (names_below n (put q ps)) first more

names-put_any : (n : ℕ) (q : Part) (ps : List Part) → nat_lt q.variable n ≡ true → names_below n ps ≡ true → names_below n (put_any q ps) ≡ true
names-put_any n q ps h k = by_test (is_zero q) (names-put n q ps h k)
  where
    by_test : (b : Bool) → names_below n (put q ps) ≡ true → names_below n (if b then ps else put q ps) ≡ true
    by_test true m = k
    by_test false m = m

names-onto : (n : ℕ) (sum ps : List Part) → names_below n sum ≡ true → names_below n ps ≡ true → names_below n (gathered_onto sum ps) ≡ true
names-onto n sum [] h k = h
names-onto n sum (p ∷ ps) h k =
    let t = two (nat_lt p.variable n) (names_below n ps) k in
    names-onto n (put_any p sum) ps (names-put_any n p sum t.0 h) t.1

size-onto : (sum ps : List Part) → total_size (gathered_onto sum ps) ≤ total_size sum + total_size ps
size-onto sum [] = omega arith
size-onto sum (p ∷ ps) = omega (arith, size-onto (put_any p sum) ps, size-put_any p sum)

-- ---- parts of which others are multiples

names-scaled : (n k : ℕ) (qs : List Part) → names_below n (map (scaled k) qs) ≡ names_below n qs
names-scaled n k [] = refl
names-scaled n k (q ∷ qs) = ap (λ (b : Bool). nat_lt q.variable n && b) (names-scaled n k qs)

grows : (k n : ℕ) → 0 < k → n ≤ k * n
grows zero n h = absurd (omega arith)
grows (suc k) n h = omega arith

size-scaled : (k : ℕ) (qs : List Part) → 0 < k → total_size qs ≤ total_size (map (scaled k) qs)
size-scaled k [] h = omega arith
size-scaled k (q ∷ qs) h = omega (arith, size-scaled k qs h, grows k (unsigned_abs q.by) h, unsigned_abs-mul (pos k) q.by)

quotient_size : (a d : ℕ) → a / d ≤ a
quotient_size a d = grind arith

floor_size : (m : ℤ) (d : ℕ) → unsigned_abs (int_div_euclid m (pos d)) ≤ unsigned_abs m
floor_size (pos a) d = quotient_size a d
floor_size (negsuc a) d = omega (arith, quotient_size a d)

le_test : (m n : ℕ) → m ≤ n → nat_le m n ≡ true
le_test m n h = grind (arith, nat_tests, h)

pub small_test : (n bound size : ℕ) (names : Bool) → names ≡ true → bound ≤ 2 ^ 64 → size ≤ 2 ^ 27 → (names && nat_le bound (2 ^ 64) && nat_le size (2 ^ 27)) ≡ true
small_test n bound size names h k l = both (names && nat_le bound (2 ^ 64)) (nat_le size (2 ^ 27)) (both names (nat_le bound (2 ^ 64)) h (le_test bound (2 ^ 64) k)) (le_test size (2 ^ 27) l)

form_small : (n : ℕ) (ps : List Part) (bound : ℤ) (t : Form) → IsNormalForm ps bound t → names_below n ps ≡ true → total_size ps ≤ 2 ^ 27 → unsigned_abs bound ≤ 2 ^ 64 → is_small n t ≡ true
form_small n ps bound t f names size most =
    small_test n (unsigned_abs t.bound) (total_size t.parts) (is_over n t)
    (sym (names-scaled n f.by t.parts) ∙ ap (names_below n) f.parts_are ∙ names-onto n [] ps refl names)
    (omega (arith, most, ap unsigned_abs f.bound_is, floor_size bound f.by))
    (omega (arith, size, size-scaled f.by t.parts f.positive, ap total_size f.parts_are, size-onto [] ps))

linear_small : (n : ℕ) (ps : List Part) (bound : ℤ) → stays_within [] ps ≡ true → names_below n ps ≡ true → total_size ps ≤ 2 ^ 27 → unsigned_abs bound ≤ 2 ^ 64 → each_atom (is_small n) (linear ps bound) ≡ true
linear_small n ps bound stays names size most = by_parts (gathered ps) refl
  where
    constant : (b : Bool) → each_atom (is_small n) (if b then All [] else Any []) ≡ true
    constant true = each_all (is_small n) []
    constant false = each_any (is_small n) []

    by_parts : (qs : List Part) → gathered ps ≡ qs → each_atom (is_small n) (bounded qs bound) ≡ true
    by_parts [] e = constant (int_le (pos 0) bound)
    by_parts (q ∷ qs) e =
        let some : 0 < length (gathered ps) = subst (λ (rs : List Part). 0 < length rs) (sym e) (omega arith) in
        let form_is : IsNormalForm ps bound (divided_by (common_divisor 0 (q ∷ qs)) (q ∷ qs) bound) = subst (λ (rs : List Part). IsNormalForm ps bound (divided_by (common_divisor 0 rs) rs bound)) e (defined_form ps bound stays some) in
        each_lone (is_small n) (divided_by (common_divisor 0 (q ∷ qs)) (q ∷ qs) bound)
        ∙ form_small n ps bound (divided_by (common_divisor 0 (q ∷ qs)) (q ∷ qs) bound) form_is names size most

-- ---- comparisons and flags

slot_test : (first slot leaves n : ℕ) → nat_lt slot leaves ≡ true → first + leaves ≤ n → nat_lt (first + slot) n ≡ true
slot_test first slot leaves n h k = grind (arith, nat_tests, h, k)

names-placed : (first leaves n : ℕ) (ss : List Share) → first + leaves ≤ n → are_slots leaves ss ≡ true → names_below n (placed_all first ss) ≡ true
names-placed first leaves n [] k h = refl
names-placed first leaves n (s ∷ ss) k h =
    let t = two (nat_lt s.slot leaves) (are_slots leaves ss) h in
    both (nat_lt (first + s.slot) n) (names_below n (placed_all first ss)) (slot_test first s.slot leaves n t.0 k) (names-placed first leaves n ss k t.1)

names-negative : (n : ℕ) (ps : List Part) → names_below n (map negative_part ps) ≡ names_below n ps
names-negative n [] = refl
names-negative n (p ∷ ps) = ap (λ (b : Bool). nat_lt p.variable n && b) (names-negative n ps)

-- a term over so few leaves, whose variables are below n
pub record IsSmallTerm (first leaves n : ℕ) (t : Term) : Type 0 where
  pub few : leaves ≤ 64
  pub room : first + leaves ≤ n
  pub wide : n ≤ 2 ^ 32
  pub term : is_term leaves 0 t ≡ true

below_size : (c more : ℤ) → unsigned_abs c ≤ 2 ^ 62 → unsigned_abs more ≤ 1 → unsigned_abs (neg_ℤ c -ℤ more) ≤ 2 ^ 64
below_size c more h k = grind (arith, ints, h, k)

above_size : (c more : ℤ) → unsigned_abs c ≤ 2 ^ 62 → unsigned_abs more ≤ 1 → unsigned_abs (c -ℤ more) ≤ 2 ^ 64
above_size c more h k = grind (arith, ints, h, k)

below_small : (first leaves n : ℕ) (more : ℤ) (t : Term) → IsSmallTerm first leaves n t → unsigned_abs more ≤ 1 → each_atom (is_small n) (below first more t) ≡ true
below_small first leaves n more t h k =
    linear_small n (placed_all first t.leaves) (neg_ℤ t.constant -ℤ more) (term_stays first leaves t h.term (omega (arith, h.room, h.wide)))
    (names-placed first leaves n t.leaves h.room (term_slots leaves t h.term))
    (omega (arith, h.few, term_small first leaves t h.term))
    (below_size t.constant more (plain_term leaves t h.term).constant k)

above_small : (first leaves n : ℕ) (more : ℤ) (t : Term) → IsSmallTerm first leaves n t → unsigned_abs more ≤ 1 → each_atom (is_small n) (above first more t) ≡ true
above_small first leaves n more t h k =
    linear_small n (map negative_part (placed_all first t.leaves)) (t.constant -ℤ more) (term_stays_negative first leaves t h.term (omega (arith, h.room, h.wide)))
    (names-negative n (placed_all first t.leaves) ∙ names-placed first leaves n t.leaves h.room (term_slots leaves t h.term))
    (omega (arith, h.few, term_small first leaves t h.term, size-negative (placed_all first t.leaves)))
    (above_size t.constant more (plain_term leaves t h.term).constant k)

compared_small : (first leaves n : ℕ) (t : Term) (o : Op) → IsSmallTerm first leaves n t → each_atom (is_small n) (compared first t o) ≡ true
compared_small first leaves n t op.Le h = below_small first leaves n (pos 0) t h (omega arith)
compared_small first leaves n t op.Lt h = below_small first leaves n (pos 1) t h (omega arith)
compared_small first leaves n t op.Ge h = above_small first leaves n (pos 0) t h (omega arith)
compared_small first leaves n t op.Gt h = above_small first leaves n (pos 1) t h (omega arith)
compared_small first leaves n t op.Eq h =
    each_all_of (is_small n) (below first (pos 0) t ∷ above first (pos 0) t ∷ [])
    ∙ both _ _ (below_small first leaves n (pos 0) t h (omega arith)) (both _ true (above_small first leaves n (pos 0) t h (omega arith)) refl)
compared_small first leaves n t op.Ne h =
    each_any_of (is_small n) (below first (pos 1) t ∷ above first (pos 1) t ∷ [])
    ∙ both _ _ (below_small first leaves n (pos 1) t h (omega arith)) (both _ true (above_small first leaves n (pos 1) t h (omega arith)) refl)

pub comparison_small : (first leaves n : ℕ) (t : Term) (o : Op) (positive : Bool) → IsSmallTerm first leaves n t → each_atom (is_small n) (signed_comparison first t o positive) ≡ true
comparison_small first leaves n t o true h = compared_small first leaves n t o h
comparison_small first leaves n t o false h = compared_small first leaves n t (opposite o) h

pub flag_small : (first leaves n leaf : ℕ) (positive : Bool) → first + leaves ≤ n → nat_lt leaf leaves ≡ true → each_atom (is_small n) (flag first leaf positive) ≡ true
flag_small first leaves n leaf true k h = each_lone (is_small n) _ ∙ small_test n 1 1 _ (both _ true (slot_test first leaf leaves n h k) refl) (omega arith) (omega arith)
flag_small first leaves n leaf false k h = each_lone (is_small n) _ ∙ small_test n 0 1 _ (both _ true (slot_test first leaf leaves n h k) refl) (omega arith) (omega arith)
