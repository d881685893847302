-- The formulas are narrow.
use Rattle.std.proofs.Common.{◌≡◌, ℕ, ◌+◌, ◌≤◌, ◌^◌, max, nat_le, true, false, ◌&&◌, ℤ, pos, neg_ℤ, int_le, ◌≤ℤ◌, unsigned_abs, List, [], ◌∷◌, ◌++◌, map, length, slice_get, Option, Some, None, refl, ap, ◌∙◌, arith}
use Rattle.std.specs.List.{list_all}
use Rattle.std.proofs.lemmas.Int.{ints}
use Rattle.std.proofs.lemmas.Bool.Decides.{nat_tests}
use Rattle.std.proofs.lemmas.List.Folds.{list_all-append}
use Rattle.lucy_clauses.specs.declared.formulas.Range.{Range}
use Rattle.lucy_clauses.specs.Formulas.{range_size, is_narrow}
use Rattle.lucy_model.specs.declared.leaves.Leaf.{Leaf}
use Rattle.lucy_model.specs.Ranges.{allows, all_allowed}
use Rattle.lucy_model.specs.declared.conditions.Condition.{Condition}
use Rattle.lucy_model.specs.declared.conditions.Condition.TheVariants.{True}
use Rattle.lucy_model.specs.Conditions.{is_condition}
use Rattle.lucy_plan.specs.declared.parts.Segment.{Segment}
use Rattle.lucy_plan.specs.declared.parts.PlanParts.{PlanParts}
use Rattle.lucy_plan.specs.Plans.{IsPlan}
use Rattle.lucy_plan.proofs.Found.{found_passes}
use Rattle.lucy_normal.specs.declared.normals.Normal.{Normal}
use Rattle.lucy_normal.specs.Normals.{normal_of}
use Rattle.lucy_normal.specs.Shapes.{each_atom, each_atom_of_all, is_small, are_small_ranges}
use Rattle.lucy_normal.proofs.Tests.{two, both}
use Rattle.lucy_normal.proofs.Narrowness.{clauses_are_narrow}
use Rattle.lucy_closure.specs.Points.{are_points, is_number, are_numbers, all_numbers}
use Rattle.lucy_closure.specs.Formulas as formulas
use Rattle.lucy_closure.specs.Formulas.{range_of, ranges_of, one_state, three_states, outside, pair_parts, pair_formula, some_segment_formula, closure_formula, whole_closure, uncovered, cover_parts, cover_formula}
use Rattle.lucy_closure.proofs.Segments.{segment_over, plan_over}
use Rattle.lucy_closure.proofs.Assignments.{length-ranges}
use Rattle.lucy_closure.proofs.Passing.{IsSmallNumber, EachNumber, EachPoint, Given, small_passes, outside_passes, uncovered_pass, pair_passes}
use Rattle.lucy_closure.proofs.Pairs.{ranges_count}
use Rattle.lucy_closure.proofs.Closures.{whole_given}

-- ---- ranges

bounds_small : (lo hi : ℤ) → neg_ℤ (pos (2 ^ 40)) ≤ℤ lo → lo ≤ℤ hi → hi ≤ℤ pos (2 ^ 40) → max 1 (max (unsigned_abs lo) (unsigned_abs hi)) ≤ 2 ^ 40
bounds_small lo hi h k l = grind (arith, ints, h, k, l)

le_test : (m n : ℕ) → m ≤ n → nat_le m n ≡ true
le_test m n h = grind (arith, nat_tests, h)

object_small : (object : List Leaf) → are_small_ranges (ranges_of object) ≡ true
object_small [] = refl
object_small (leaf ∷ object) =
    both (nat_le (range_size (range_of leaf)) (2 ^ 40)) (are_small_ranges (ranges_of object)) (le_test (range_size (range_of leaf)) (2 ^ 40) (bounds_small leaf.lo leaf.hi leaf.low leaf.ordered leaf.high)) (object_small object)

three_small : (object : List Leaf) → are_small_ranges (three_states object).ranges ≡ true
three_small object =
    let rs = ranges_of object in
    let small = λ (r : Range). nat_le (range_size r) (2 ^ 40) in
    list_all-append small (rs ++ rs) rs
    ∙ both (are_small_ranges (rs ++ rs)) (are_small_ranges rs) (list_all-append small rs rs ∙ both (are_small_ranges rs) (are_small_ranges rs) (object_small object) (object_small object)) (object_small object)

-- ---- numbers of points

allowed_number : (lo hi x : ℤ) → neg_ℤ (pos (2 ^ 40)) ≤ℤ lo → hi ≤ℤ pos (2 ^ 40) → (int_le lo x && int_le x hi) ≡ true → unsigned_abs x ≤ 2 ^ 63
allowed_number lo hi x h k l = grind (arith, ints, h, k, l)

allowed_numbers : (object : List Leaf) (xs : List ℤ) → all_allowed object xs ≡ true → EachNumber IsSmallNumber xs
allowed_numbers [] [] h = tt
allowed_numbers [] (x ∷ xs) h = absurd (cc)
allowed_numbers (leaf ∷ object) [] h = absurd (cc)
allowed_numbers (leaf ∷ object) (x ∷ xs) h =
    let t = two (allows leaf x) (all_allowed object xs) h in
    (allowed_number leaf.lo leaf.hi x leaf.low leaf.high t.0, allowed_numbers object xs t.1)

allowed_points : (object : List Leaf) (points : List (List ℤ)) → list_all (all_allowed object) points ≡ true → EachPoint IsSmallNumber points
allowed_points object [] h = tt
allowed_points object (p ∷ points) h =
    let t = two (all_allowed object p) (list_all (all_allowed object) points) h in
    (allowed_numbers object p t.0, allowed_points object points t.1)

number_small : (x : ℤ) → is_number x ≡ true → unsigned_abs x ≤ 2 ^ 63
number_small x h = le_of (unsigned_abs x) (2 ^ 63) h
  where
    le_of : (m n : ℕ) → nat_le m n ≡ true → m ≤ n
    le_of m n h = grind (arith, nat_tests, h)

numbers_small : (xs : List ℤ) → are_numbers xs ≡ true → EachNumber IsSmallNumber xs
numbers_small [] h = tt
numbers_small (x ∷ xs) h =
    let t = two (is_number x) (are_numbers xs) h in
    (number_small x t.0, numbers_small xs t.1)

points_small : (points : List (List ℤ)) → all_numbers points ≡ true → EachPoint IsSmallNumber points
points_small [] h = tt
points_small (p ∷ points) h =
    let t = two (are_numbers p) (all_numbers points) h in
    (numbers_small p t.0, points_small points t.1)

-- ---- formulas over two states and their merge

same : (n : ℕ) → n ≤ n
same n = omega arith

pair_narrow : (object : List Leaf) (i c : Condition) (points : List (List ℤ)) (last : Normal) → Given IsSmallNumber (length object) i c points → each_atom (is_small (length object + (length object + length object))) last ≡ true →
    is_narrow (pair_formula object i c points last) ≡ true
pair_narrow object i c points last g h =
    let n = length object + (length object + length object) in
    let few = g.few in
    clauses_are_narrow (pair_parts object i c points last) (three_states object) (three_small object) refl
    (ap (λ (k : ℕ). each_atom_of_all (is_small k) (pair_parts object i c points last)) (ranges_count object)
    ∙ pair_passes (is_small n) n IsSmallNumber (small_passes n (omega (arith, few))) object i c points last g (same n) h)

segment_given : (plan : PlanParts) (s : Segment) → IsPlan plan → formulas.is_over (length plan.object) s ≡ true → list_all (all_allowed plan.object) s.excepts ≡ true →
    Given IsSmallNumber (length plan.object) plan.invariant s.condition s.excepts
segment_given plan s p h k =
    let t = two (is_condition (length plan.object) 0 s.condition) (are_points (length plan.object) s.excepts) h in
    record { few = p.leaves_few; invariant_is = p.invariant; condition_is = t.0; points_are = t.1; numbers = allowed_points plan.object s.excepts k }

empty_narrow : (plan : PlanParts) → is_narrow (one_state plan.object) ≡ true
empty_narrow plan = refl

pub closure_narrow : (plan : PlanParts) (k : ℕ) → IsPlan plan → is_narrow (closure_formula plan k) ≡ true
closure_narrow plan k p = at (slice_get plan.segments k) refl
  where
    at : (o : Option Segment) → slice_get plan.segments k ≡ o → is_narrow (some_segment_formula plan o) ≡ true
    at None e = empty_narrow plan
    at (Some s) e =
        let l = length plan.object in
        let n = l + (l + l) in
        let few = p.leaves_few in
        let g = segment_given plan s p (segment_over plan k s p e) (found_passes (λ (s : Segment). list_all (all_allowed plan.object) s.excepts) plan.segments k s e p.points) in
        pair_narrow plan.object plan.invariant s.condition s.excepts (outside (l + l) plan.invariant s.condition s.excepts) g
        (outside_passes (is_small n) n IsSmallNumber (small_passes n (omega (arith, few))) l (l + l) plan.invariant s.condition s.excepts g (omega arith))

pub whole_narrow : (plan : PlanParts) (points : List (List ℤ)) → IsPlan plan → are_points (length plan.object) points ≡ true → all_numbers points ≡ true → is_narrow (whole_closure plan points) ≡ true
whole_narrow plan points p h k =
    let l = length plan.object in
    let n = l + (l + l) in
    let few = p.leaves_few in
    pair_narrow plan.object plan.invariant True points (normal_of (l + l) plan.invariant false) (whole_given IsSmallNumber plan points p h (points_small points k))
    ((small_passes n (omega (arith, few))).normal (l + l) l plan.invariant false few (omega arith) p.invariant)

-- ---- the cover

cover_small : (plan : PlanParts) → IsPlan plan → each_atom_of_all (is_small (length plan.object)) (cover_parts plan) ≡ true
cover_small plan p =
    let l = length plan.object in
    let few = p.leaves_few in
    let wide : l ≤ 2 ^ 32 = omega (arith, few) in
    both (each_atom (is_small l) (normal_of 0 plan.invariant true)) (each_atom_of_all (is_small l) (map uncovered plan.segments))
    ((small_passes l wide).normal 0 l plan.invariant true few (omega arith) p.invariant)
    (uncovered_pass (is_small l) l IsSmallNumber (small_passes l wide) l plan.invariant (omega arith) (formulas.is_over l) (λ (s : Segment). list_all (all_allowed plan.object) s.excepts) (λ s h k. segment_given plan s p h k)
    plan.segments (plan_over plan p) p.points)

pub cover_narrow : (plan : PlanParts) → IsPlan plan → is_narrow (cover_formula plan) ≡ true
cover_narrow plan p =
    clauses_are_narrow (cover_parts plan) (one_state plan.object) (object_small plan.object) refl
    (ap (λ (k : ℕ). each_atom_of_all (is_small k) (cover_parts plan)) (length-ranges plan.object) ∙ cover_small plan p)
