-- What the cover formula says.
use Rattle.std.proofs.Common.{◌≡◌, ℕ, ◌+◌, ◌≤◌, ◌^◌, Bool, true, false, not, cond, ◌||◌, ◌&&◌, ◌↔◌, ℤ, List, [], ◌∷◌, ◌++◌, map, length, take, Some, is_some, refl, sym, ap, ◌∙◌, arith, append_assoc}
use Rattle.std.specs.List.{list_any, position_from}
use Rattle.std.proofs.lemmas.List.{append-nil}
use Rattle.lucy_clauses.specs.Formulas.{are_within, Models, HasNoModel}
use Rattle.lucy_model.specs.Conditions.{holds_at}
use Rattle.lucy_model.specs.Ranges.{all_allowed}
use Rattle.lucy_plan.specs.declared.parts.Segment.{Segment}
use Rattle.lucy_plan.specs.declared.parts.PlanParts.{PlanParts}
use Rattle.lucy_plan.specs.Plans.{IsPlan}
use Rattle.lucy_plan.specs.Soundness.{IsCovered}
use Rattle.lucy_plan.specs.Segments.{is_whole, is_among, is_in, first_segment}
use Rattle.lucy_normal.specs.Normals.{normal_of}
use Rattle.lucy_normal.specs.Shapes.{binaries, true_at, all_true_at, each_atom, each_atom_of_all, is_over, fresh_of_all}
use Rattle.lucy_normal.specs.Laws.{SaysState}
use Rattle.lucy_normal.proofs.Tests.{two, both}
use Rattle.lucy_normal.proofs.Clauses.{clauses_can_hold}
use Rattle.lucy_normal.proofs.Meanings.{normal_means}
use Rattle.lucy_normal.proofs.FlatLists.{any_of_is}
use Rattle.lucy_closure.specs.Formulas as formulas
use Rattle.lucy_closure.specs.Formulas.{ranges_of, one_state, left_out, uncovered, cover_parts, cover_formula}
use Rattle.lucy_closure.specs.Meanings.{CoverModelIsUncovered, UncoveredIsCoverModel}
use Rattle.lucy_closure.proofs.Segments.{plan_over, allowed_length}
use Rattle.lucy_closure.proofs.Assignments.{says_front, within_allowed, length-ranges, first_of}
use Rattle.lucy_closure.proofs.Passing.{Any_number, over_passes, uncovered_pass}
use Rattle.lucy_closure.proofs.Pairs.{left_out_means, parts_hold, parts_ranges, says_taken, front_is}
use Rattle.lucy_closure.proofs.Closures.{segment_given}

some_position : (test : Segment → Bool) (from : ℕ) (ss : List Segment) → is_some (position_from test from ss) ≡ list_any test ss
some_position test from [] = refl
some_position test from (s ∷ ss) = by_test (test s) (some_position test (from + 1) ss)
  where
    by_test : (b : Bool) → is_some (position_from test (from + 1) ss) ≡ list_any test ss → is_some (cond b (Some from) (position_from test (from + 1) ss)) ≡ (b || list_any test ss)
    by_test true e = refl
    by_test false e = e

pub some_segment : (plan : PlanParts) (xs : List ℤ) → is_some (first_segment plan xs) ≡ list_any (λ (s : Segment). is_in plan s xs) plan.segments
some_segment plan xs = some_position (λ (s : Segment). is_in plan s xs) 0 plan.segments

not_in_whole : (w c m : Bool) → w ≡ true → (not c || m) ≡ not ((w && c) && not m)
not_in_whole true true true h = refl
not_in_whole true true false h = refl
not_in_whole true false m h = refl
not_in_whole false c m h = absurd (cc)

-- a state that an assignment says, from the first variable on
record Said (plan : PlanParts) (xs b : List ℤ) : Type 0 where
  pub plan_is : IsPlan plan
  pub says : SaysState 0 (length plan.object) xs b
  pub whole : is_whole plan xs ≡ true

none_means : (plan : PlanParts) (xs b : List ℤ) → Said plan xs b → (ss : List Segment) → formulas.are_over (length plan.object) ss ≡ true →
    all_true_at b (map uncovered ss) ≡ not (list_any (λ (s : Segment). is_in plan s xs) ss)
none_means plan xs b d [] h = refl
none_means plan xs b d (s ∷ ss) h =
    let l = length plan.object in
    let t = two (formulas.is_over l s) (formulas.are_over l ss) h in
    let few = d.plan_is.leaves_few in
    let w = two (all_allowed plan.object xs) (holds_at plan.invariant xs []) d.whole in
    ap (λ (x : Bool). x && all_true_at b (map uncovered ss))
    (any_of_is b (left_out 0 s.condition s.excepts)
    ∙ left_out_means l 0 plan.invariant s.condition s.excepts xs b (record { given = segment_given plan s d.plan_is t.0; says = d.says; length_is = allowed_length plan.object xs w.0; wide = omega (arith, few) })
    ∙ not_in_whole (is_whole plan xs) (holds_at s.condition xs []) (is_among s.excepts xs) d.whole)
    ∙ ap (λ (x : Bool). not (is_in plan s xs) && x) (none_means plan xs b d ss t.1)
    ∙ turned (is_in plan s xs) (list_any (λ (s : Segment). is_in plan s xs) ss)
  where
    turned : (a b : Bool) → (not a && not b) ≡ not (a || b)
    turned true b = refl
    turned false b = refl

not_true : (x : Bool) → not x ≡ true → x ≡ false
not_true true h = sym h
not_true false h = refl

-- ---- from a model to the state

pub cover_model_is_uncovered : CoverModelIsUncovered
cover_model_is_uncovered plan b p m =
    let l = length plan.object in
    let xs = take l b in
    let ps = cover_parts plan in
    let few = p.leaves_few in
    let f = first_of plan.object (binaries (fresh_of_all ps [])) b (parts_ranges ps (one_state plan.object) b m) in
    let t = two (true_at (normal_of 0 plan.invariant true) b) (all_true_at b (map uncovered plan.segments)) (parts_hold ps (one_state plan.object) b m) in
    let says = says_taken l b f.even in
    let holds = sym (normal_means 0 l plan.invariant true xs b (omega (arith, few)) p.invariant says) ∙ t.0 in
    let whole = both (all_allowed plan.object xs) (holds_at plan.invariant xs []) f.allowed holds in (
      whole,
      some_segment plan xs ∙ not_true (list_any (λ (s : Segment). is_in plan s xs) plan.segments)
          (sym (none_means plan xs b (record { plan_is = p; says = says; whole = whole }) plan.segments (plan_over plan p)) ∙ t.1),
    )

-- ---- from the state to a model

cover_over : (plan : PlanParts) → IsPlan plan → each_atom_of_all (is_over (length plan.object)) (cover_parts plan) ≡ true
cover_over plan p =
    let l = length plan.object in
    let few = p.leaves_few in
    let wide : l ≤ 2 ^ 32 = omega (arith, few) in
    both (each_atom (is_over l) (normal_of 0 plan.invariant true)) (each_atom_of_all (is_over l) (map uncovered plan.segments))
    ((over_passes l wide).normal 0 l plan.invariant true few (omega arith) p.invariant)
    (uncovered_pass (is_over l) l Any_number (over_passes l wide) l plan.invariant (omega arith) (formulas.is_over l) (formulas.is_over l) (λ s h k. segment_given plan s p h)
    plan.segments (plan_over plan p) (plan_over plan p))

abbrev cover_model : PlanParts → List ℤ → List ℤ
cover_model plan xs = (xs ++ []) ++ fresh_of_all (cover_parts plan) (xs ++ [])

cover_made : (plan : PlanParts) (xs : List ℤ) → IsPlan plan → is_whole plan xs ≡ true → is_some (first_segment plan xs) ≡ false → Models (cover_formula plan) (cover_model plan xs)
cover_made plan xs p whole none =
    let l = length plan.object in
    let ps = cover_parts plan in
    let few = p.leaves_few in
    let w = two (all_allowed plan.object xs) (holds_at plan.invariant xs []) whole in
    let says = says_front l xs [] (allowed_length plan.object xs w.0) in
    let within : are_within (ranges_of plan.object) (xs ++ []) ≡ true = ap (are_within (ranges_of plan.object)) (append-nil xs) ∙ within_allowed plan.object xs ∙ w.0 in
    let true_is = both (true_at (normal_of 0 plan.invariant true) (xs ++ [])) (all_true_at (xs ++ []) (map uncovered plan.segments))
    (normal_means 0 l plan.invariant true xs (xs ++ []) (omega (arith, few)) p.invariant says ∙ w.1)
    (none_means plan xs (xs ++ []) (record { plan_is = p; says = says; whole = whole }) plan.segments (plan_over plan p) ∙ ap not (sym (some_segment plan xs) ∙ none)) in
    clauses_can_hold ps (one_state plan.object) (xs ++ []) refl (ap (λ (k : ℕ). each_atom_of_all (is_over k) ps) (length-ranges plan.object) ∙ cover_over plan p)
    (both (are_within (ranges_of plan.object) (xs ++ [])) true within refl) true_is

pub cover_says : (plan : PlanParts) → IsPlan plan → HasNoModel (cover_formula plan) ↔ IsCovered plan
cover_says plan p = (to, back)
  where
    to : HasNoModel (cover_formula plan) → IsCovered plan
    to none xs whole = by_test (is_some (first_segment plan xs)) refl
      where
        by_test : (b : Bool) → is_some (first_segment plan xs) ≡ b → b ≡ true
        by_test true e = refl
        by_test false e = absurd (none (cover_model plan xs) (cover_made plan xs p whole e))

    apart : (b : Bool) → b ≡ true → b ≡ false → ⊥
    apart b e f = cc

    back : IsCovered plan → HasNoModel (cover_formula plan)
    back covered a m =
        let f = cover_model_is_uncovered plan a p m in
        apart (is_some (first_segment plan (take (length plan.object) a))) (covered (take (length plan.object) a) f.0) f.1

pub uncovered_is_cover_model : UncoveredIsCoverModel
uncovered_is_cover_model plan xs p whole none =
    let w = two (all_allowed plan.object xs) (holds_at plan.invariant xs []) whole in
    let fresh = fresh_of_all (cover_parts plan) (xs ++ []) in
    record {
      numbers = cover_model plan xs;
      model = cover_made plan xs p whole none;
      first = ap (λ (zs : List ℤ). take (length plan.object) zs) (append_assoc xs [] fresh) ∙ front_is (length plan.object) xs ([] ++ fresh) (allowed_length plan.object xs w.0);
    }
