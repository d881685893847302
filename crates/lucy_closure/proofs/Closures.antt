-- What the closure formulas say.
use Rattle.std.proofs.Common.{◌≡◌, ℕ, zero, suc, ◌+◌, ◌<◌, ◌≤◌, Bool, true, false, not, ◌||◌, ◌&&◌, ◌↔◌, if◌then◌else◌, ℤ, List, [], ◌∷◌, length, slice_get, Option, Some, None, refl, sym, ap, ◌∙◌, arith}
use Rattle.lucy_clauses.specs.Formulas.{Models, HasNoModel}
use Rattle.lucy_model.specs.declared.leaves.Leaf.{Leaf}
use Rattle.lucy_model.specs.declared.conditions.Condition.{Condition}
use Rattle.lucy_model.specs.declared.conditions.Condition.TheVariants.{True, rolls-True}
use Rattle.lucy_model.specs.declared.conditions.Condition.TheOpen.{Condition-F}
use Rattle.lucy_model.specs.declared.conditions.Condition.TheFolds.{fold-roll-Condition}
use Rattle.lucy_model.specs.Conditions.{Test, test_step, holds_at, range_step, is_condition}
use Rattle.lucy_model.specs.Merging.{merged}
use Rattle.lucy_model.specs.Ranges.{all_allowed}
use Rattle.lucy_model.proofs.MergingLemmas.{merged-comm}
use Rattle.lucy_plan.specs.declared.parts.Segment.{Segment}
use Rattle.lucy_plan.specs.declared.parts.PlanParts.{PlanParts}
use Rattle.lucy_plan.specs.Plans.{IsPlan}
use Rattle.lucy_plan.specs.Segments.{is_whole, is_among, is_in, is_in_some, is_in_segment}
use Rattle.lucy_plan.specs.Soundness.{IsMergeClosed}
use Rattle.lucy_normal.specs.declared.normals.Normal.{Normal}
use Rattle.lucy_normal.specs.Normals.{normal_of}
use Rattle.lucy_normal.specs.Shapes.{is_over, fresh_of_all}
use Rattle.lucy_normal.proofs.Tests.{two}
use Rattle.lucy_normal.proofs.Meanings.{normal_means}
use Rattle.lucy_closure.specs.Points.{are_points}
use Rattle.lucy_closure.specs.Formulas.{outside, pair_parts, pair_formula, segment_formula, some_segment_formula, closure_formula, whole_closure}
use Rattle.lucy_closure.specs.Formulas as formulas
use Rattle.lucy_closure.specs.Readings.{comes_before, ordered}
use Rattle.lucy_closure.specs.Meanings.{is_whole_off, IsWholeClosedOff, IsEscape, ClosureModelIsEscape, WholeModelIsEscape, HasModelOfPair, EscapeIsClosureModel, EscapeIsWholeModel}
use Rattle.lucy_closure.proofs.Segments.{segment_over, allowed_length}
use Rattle.lucy_closure.proofs.Orders.{asymmetric}
use Rattle.lucy_closure.proofs.Passing.{Given, Any_number, EachNumber, EachPoint, over_passes, outside_passes}
use Rattle.lucy_closure.proofs.Pairs.{outside_means, is_inside, Pair, Found, left_of, right_of, pair_found, pair_model, said_by, pair_made, first_is, second_is}

pub any_number : (xs : List ℤ) → EachNumber Any_number xs
any_number [] = tt
any_number (x ∷ xs) = (tt, any_number xs)

pub any_points : (points : List (List ℤ)) → EachPoint Any_number points
any_points [] = tt
any_points (p ∷ points) = (any_number p, any_points points)

same : (n : ℕ) → n ≤ n
same n = omega arith

-- ---- the states of a model, in order

pub escape : (plan : PlanParts) (i c : Condition) (points : List (List ℤ)) (inside safe : List ℤ → Bool) (xs ys : List ℤ) → ((zs : List ℤ) → is_inside plan.object i c points zs ≡ inside zs) →
    Found plan.object i c points safe xs ys → IsEscape plan inside safe (ordered xs ys)
escape plan i c points inside safe xs ys is f = by_test (comes_before ys xs) refl
  where
    by_test : (b : Bool) → comes_before ys xs ≡ b → IsEscape plan inside safe (if b then (ys, xs) else (xs, ys))
    by_test true e = record {
      first = sym (is ys) ∙ f.right;
      second = sym (is xs) ∙ f.left;
      merge = ap safe (merged-comm plan.object ys xs) ∙ f.merge;
      order = asymmetric ys xs e;
    }
    by_test false e = record { first = sym (is xs) ∙ f.left; second = sym (is ys) ∙ f.right; merge = f.merge; order = e }

-- ---- the model of two states

pub pair_has_model : (plan : PlanParts) (i c : Condition) (points : List (List ℤ)) (last : Normal) (inside safe : List ℤ → Bool) (left right : List ℤ) → ((zs : List ℤ) → is_inside plan.object i c points zs ≡ inside zs) → Pair plan.object i c points last safe →
    inside left ≡ true → inside right ≡ true → safe (merged plan.object left right) ≡ false → HasModelOfPair (pair_formula plan.object i c points last) (length plan.object) left right
pair_has_model plan i c points last inside safe left right is p h k e =
    let l = length plan.object in
    let ms = merged plan.object left right in
    let fresh = fresh_of_all (pair_parts plan.object i c points last) (said_by left right ms) in
    let x_even = inside_even plan.object i c points left (is left ∙ h) in
    let y_even = inside_even plan.object i c points right (is right ∙ k) in
    record {
      numbers = pair_model plan.object i c points last left right;
      model = pair_made plan.object i c points last safe left right p (record { left = is left ∙ h; right = is right ∙ k; merge = e });
      first = first_is l left right ms fresh x_even;
      second = second_is l left right ms fresh x_even y_even;
    }
  where
    inside_even : (object : List Leaf) (i c : Condition) (points : List (List ℤ)) (xs : List ℤ) → is_inside object i c points xs ≡ true → length xs ≡ length object
    inside_even object i c points xs h = allowed_length object xs (two (all_allowed object xs) (holds_at i xs [] && (holds_at c xs [] && not (is_among points xs))) h).0

-- no model exactly where each merge passes
pub says : (plan : PlanParts) (i c : Condition) (points : List (List ℤ)) (last : Normal) (inside safe : List ℤ → Bool) → ((zs : List ℤ) → is_inside plan.object i c points zs ≡ inside zs) → Pair plan.object i c points last safe →
    HasNoModel (pair_formula plan.object i c points last) ↔ ((left right : List ℤ) → inside left ≡ true → inside right ≡ true → safe (merged plan.object left right) ≡ true)
says plan i c points last inside safe is p = (to, back)
  where
    to : HasNoModel (pair_formula plan.object i c points last) → (left right : List ℤ) → inside left ≡ true → inside right ≡ true → safe (merged plan.object left right) ≡ true
    to none left right h k = by_test (safe (merged plan.object left right)) refl
      where
        by_test : (b : Bool) → safe (merged plan.object left right) ≡ b → b ≡ true
        by_test true e = refl
        by_test false e = absurd (none (pair_model plan.object i c points last left right) (pair_made plan.object i c points last safe left right p (record { left = is left ∙ h; right = is right ∙ k; merge = e })))

    apart : (b : Bool) → b ≡ true → b ≡ false → ⊥
    apart b e f = cc

    back : ((left right : List ℤ) → inside left ≡ true → inside right ≡ true → safe (merged plan.object left right) ≡ true) → HasNoModel (pair_formula plan.object i c points last)
    back closed a m =
        let f = pair_found plan.object i c points last safe a p m in
        apart (safe (merged plan.object (left_of plan.object a) (right_of plan.object a)))
        (closed (left_of plan.object a) (right_of plan.object a) (sym (is (left_of plan.object a)) ∙ f.left) (sym (is (right_of plan.object a)) ∙ f.right)) f.merge

-- ---- segments

not_in : (a i c m : Bool) → a ≡ true → (not i || (not c || m)) ≡ not (((a && i) && c) && not m)
not_in true true true true h = refl
not_in true true true false h = refl
not_in true true false m h = refl
not_in true false c m h = refl
not_in false i c m h = absurd (cc)

in_is : (a i c m : Bool) → (a && (i && (c && m))) ≡ (((a && i) && c) && m)
in_is true true c m = refl
in_is true false c m = refl
in_is false i c m = refl

inside_is_in : (plan : PlanParts) (s : Segment) (zs : List ℤ) → is_inside plan.object plan.invariant s.condition s.excepts zs ≡ is_in plan s zs
inside_is_in plan s zs = in_is (all_allowed plan.object zs) (holds_at plan.invariant zs []) (holds_at s.condition zs []) (not (is_among s.excepts zs))

pub segment_given : (plan : PlanParts) (s : Segment) → IsPlan plan → formulas.is_over (length plan.object) s ≡ true → Given Any_number (length plan.object) plan.invariant s.condition s.excepts
segment_given plan s p h =
    let t = two (is_condition (length plan.object) 0 s.condition) (are_points (length plan.object) s.excepts) h in
    record { few = p.leaves_few; invariant_is = p.invariant; condition_is = t.0; points_are = t.1; numbers = any_points s.excepts }

segment_pair : (plan : PlanParts) (s : Segment) → IsPlan plan → formulas.is_over (length plan.object) s ≡ true →
    Pair plan.object plan.invariant s.condition s.excepts (outside (length plan.object + length plan.object) plan.invariant s.condition s.excepts) (is_in plan s)
segment_pair plan s p h =
    let l = length plan.object in
    let g = segment_given plan s p h in
    let few = p.leaves_few in
    record {
      given = g;
      last_is = record {
        means = λ ms b says allowed. (outside_means l (l + l) plan.invariant s.condition s.excepts ms b (record { given = g; says = says; length_is = allowed_length plan.object ms allowed; wide = omega (arith, few) })
            ∙ not_in (all_allowed plan.object ms) (holds_at plan.invariant ms []) (holds_at s.condition ms []) (is_among s.excepts ms) allowed);
        over = outside_passes (is_over (l + (l + l))) (l + (l + l)) Any_number (over_passes (l + (l + l)) (omega (arith, few))) l (l + l) plan.invariant s.condition s.excepts g (omega arith);
      };
    }

none_there : {X : Type 0} (xs : List X) (i : ℕ) → i < length xs → slice_get xs i ≡ None → ⊥
none_there [] i h e = omega (arith, h)
none_there (x ∷ xs) zero h e = cc
none_there (x ∷ xs) (suc i) h e = none_there xs i (omega (arith, h)) e

pub closure_model_is_escape : ClosureModelIsEscape
closure_model_is_escape plan k a p below m = at (slice_get plan.segments k) refl m
  where
    at : (o : Option Segment) → slice_get plan.segments k ≡ o → Models (some_segment_formula plan o) a → IsEscape plan (is_in_some plan o) (is_in_some plan o) (ordered (left_of plan.object a) (right_of plan.object a))
    at None e m = absurd (none_there plan.segments k below e)
    at (Some s) e m =
        let g = segment_pair plan s p (segment_over plan k s p e) in
        escape plan plan.invariant s.condition s.excepts (is_in plan s) (is_in plan s) (left_of plan.object a) (right_of plan.object a) (inside_is_in plan s)
        (pair_found plan.object plan.invariant s.condition s.excepts (outside (length plan.object + length plan.object) plan.invariant s.condition s.excepts) (is_in plan s) a g m)

pub closure_says : (plan : PlanParts) (k : ℕ) → IsPlan plan → k < length plan.segments → HasNoModel (closure_formula plan k) ↔ IsMergeClosed plan.object (is_in_segment plan k)
closure_says plan k p below = at (slice_get plan.segments k) refl
  where
    at : (o : Option Segment) → slice_get plan.segments k ≡ o → HasNoModel (some_segment_formula plan o) ↔ IsMergeClosed plan.object (is_in_some plan o)
    at None e = absurd (none_there plan.segments k below e)
    at (Some s) e =
        says plan plan.invariant s.condition s.excepts (outside (length plan.object + length plan.object) plan.invariant s.condition s.excepts) (is_in plan s) (is_in plan s) (inside_is_in plan s) (segment_pair plan s p (segment_over plan k s p e))

pub escape_is_closure_model : EscapeIsClosureModel
escape_is_closure_model plan k left right p below h i e = at (slice_get plan.segments k) refl h i e
  where
    at : (o : Option Segment) → slice_get plan.segments k ≡ o → is_in_some plan o left ≡ true → is_in_some plan o right ≡ true → is_in_some plan o (merged plan.object left right) ≡ false →
        HasModelOfPair (some_segment_formula plan o) (length plan.object) left right
    at None f h i e = absurd (none_there plan.segments k below f)
    at (Some s) f h i e =
        pair_has_model plan plan.invariant s.condition s.excepts (outside (length plan.object + length plan.object) plan.invariant s.condition s.excepts) (is_in plan s) (is_in plan s) left right
        (inside_is_in plan s) (segment_pair plan s p (segment_over plan k s p f)) h i e

-- ---- the whole invariant

always : (xs : List ℤ) → holds_at True xs [] ≡ true
always xs = ap (λ (c : Condition). holds_at c xs []) (sym rolls-True) ∙ ap (λ (t : Test). t xs []) (fold-roll-Condition Test test_step Condition-F.True)

pub true_is_condition : (n : ℕ) → is_condition n 0 True ≡ true
true_is_condition n = ap (is_condition n 0) (sym rolls-True) ∙ fold-roll-Condition Bool (range_step n 0) Condition-F.True

off_is : (a i c m : Bool) → c ≡ true → (a && (i && (c && m))) ≡ ((a && i) && m)
off_is true true c m h = ap (λ (b : Bool). b && m) h
off_is true false c m h = refl
off_is false i c m h = refl

inside_is_off : (plan : PlanParts) (points : List (List ℤ)) (zs : List ℤ) → is_inside plan.object plan.invariant True points zs ≡ is_whole_off plan points zs
inside_is_off plan points zs = off_is (all_allowed plan.object zs) (holds_at plan.invariant zs []) (holds_at True zs []) (not (is_among points zs)) (always zs)

not_whole : (a i : Bool) → a ≡ true → not i ≡ not (a && i)
not_whole true i h = refl
not_whole false i h = absurd (cc)

pub whole_given : (ok : ℤ → Type 0) (plan : PlanParts) (points : List (List ℤ)) → IsPlan plan → are_points (length plan.object) points ≡ true → EachPoint ok points → Given ok (length plan.object) plan.invariant True points
whole_given ok plan points p h e = record { few = p.leaves_few; invariant_is = p.invariant; condition_is = true_is_condition (length plan.object); points_are = h; numbers = e }

whole_pair : (plan : PlanParts) (points : List (List ℤ)) → IsPlan plan → are_points (length plan.object) points ≡ true →
    Pair plan.object plan.invariant True points (normal_of (length plan.object + length plan.object) plan.invariant false) (is_whole plan)
whole_pair plan points p h =
    let l = length plan.object in
    let few = p.leaves_few in
    record {
      given = whole_given Any_number plan points p h (any_points points);
      last_is = record {
        means = λ ms b says allowed. (normal_means (l + l) l plan.invariant false ms b (omega (arith, few)) p.invariant says ∙ not_whole (all_allowed plan.object ms) (holds_at plan.invariant ms []) allowed);
        over = (over_passes (l + (l + l)) (omega (arith, few))).normal (l + l) l plan.invariant false few (omega arith) p.invariant;
      };
    }

pub whole_model_is_escape : WholeModelIsEscape
whole_model_is_escape plan points a p h m =
    escape plan plan.invariant True points (is_whole_off plan points) (is_whole plan) (left_of plan.object a) (right_of plan.object a) (inside_is_off plan points)
    (pair_found plan.object plan.invariant True points (normal_of (length plan.object + length plan.object) plan.invariant false) (is_whole plan) a (whole_pair plan points p h) m)

pub whole_says : (plan : PlanParts) (points : List (List ℤ)) → IsPlan plan → are_points (length plan.object) points ≡ true → HasNoModel (whole_closure plan points) ↔ IsWholeClosedOff plan points
whole_says plan points p h =
    says plan plan.invariant True points (normal_of (length plan.object + length plan.object) plan.invariant false) (is_whole_off plan points) (is_whole plan) (inside_is_off plan points) (whole_pair plan points p h)

pub escape_is_whole_model : EscapeIsWholeModel
escape_is_whole_model plan points left right p h i j e =
    pair_has_model plan plan.invariant True points (normal_of (length plan.object + length plan.object) plan.invariant false) (is_whole_off plan points) (is_whole plan) left right
    (inside_is_off plan points) (whole_pair plan points p h) i j e
