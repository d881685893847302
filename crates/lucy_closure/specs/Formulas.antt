-- The formulas of a plan's closures and of its cover.
use Rattle.std.specs.Prelude.{ℕ, ◌+◌, Bool, ◌&&◌, true, false, ℤ, List, [], ◌∷◌, ◌++◌, map, length, Option, Some, None, slice_get}
use Rattle.std.specs.List.{list_all}
use Rattle.lucy_clauses.specs.declared.formulas.Range.{Range}
use Rattle.lucy_clauses.specs.declared.formulas.Formula.{Formula}
use Rattle.lucy_model.specs.declared.leaves.Leaf.{Leaf}
use Rattle.lucy_model.specs.declared.conditions.Condition.{Condition}
use Rattle.lucy_model.specs.declared.conditions.Condition.TheVariants.{True}
use Rattle.lucy_model.specs.Conditions.{is_condition}
use Rattle.lucy_plan.specs.declared.parts.Segment.{Segment}
use Rattle.lucy_plan.specs.declared.parts.PlanParts.{PlanParts}
use Rattle.lucy_normal.specs.declared.normals.Normal.{Normal}
use Rattle.lucy_normal.specs.Flat.{any_of}
use Rattle.lucy_normal.specs.Normals.{normal_of}
use Rattle.lucy_normal.specs.Shapes.{put_all}
use Rattle.lucy_closure.specs.Points.{at_point, off_point, are_points}
use Rattle.lucy_closure.specs.Merges.{merged_leaves}

-- ---- variables: the leaves of one state, or of two states and their merge

abbrev pub range_of : Leaf → Range
range_of leaf = record { lo = leaf.lo; hi = leaf.hi }

abbrev pub ranges_of : List Leaf → List Range
ranges_of object = map range_of object

abbrev pub one_state : List Leaf → Formula
one_state object = record { ranges = ranges_of object; clauses = [] }

abbrev pub three_states : List Leaf → Formula
three_states object = record { ranges = ranges_of object ++ ranges_of object ++ ranges_of object; clauses = [] }

-- a segment's condition and points are over so many leaves
abbrev pub is_over : ℕ → Segment → Bool
is_over leaves s = is_condition leaves 0 s.condition && are_points leaves s.excepts

abbrev pub are_over : ℕ → List Segment → Bool
are_over leaves segments = list_all (is_over leaves) segments

-- ---- what holds of the states, where the first leaf's variable has the number v

-- a state satisfies the invariant and a condition, and is none of the points
abbrev pub inside : ℕ → Condition → Condition → List (List ℤ) → List Normal
inside v invariant condition points = normal_of v invariant true ∷ normal_of v condition true ∷ map (off_point v) points

-- a state does not satisfy a condition, or is one of the points
abbrev pub left_out : ℕ → Condition → List (List ℤ) → List Normal
left_out v condition points = normal_of v condition false ∷ map (at_point v) points

abbrev pub any_left_out : ℕ → Condition → List (List ℤ) → Normal
any_left_out v condition points = any_of (left_out v condition points)

-- a state does not satisfy the invariant, or is left out
abbrev pub outside : ℕ → Condition → Condition → List (List ℤ) → Normal
outside v invariant condition points = any_of (normal_of v invariant false ∷ left_out v condition points)

-- two states inside, and their merge, of which something holds
abbrev pub pair_parts : List Leaf → Condition → Condition → List (List ℤ) → Normal → List Normal
pair_parts object invariant condition points last =
    inside 0 invariant condition points ++ inside (length object) invariant condition points ++ merged_leaves (length object) 0 object ++ last ∷ []

abbrev pub pair_formula : List Leaf → Condition → Condition → List (List ℤ) → Normal → Formula
pair_formula object invariant condition points last = put_all (pair_parts object invariant condition points last) (three_states object)

-- ---- the formulas

-- two states of a segment have a merge outside it
abbrev pub segment_formula : PlanParts → Segment → Formula
segment_formula plan s =
    pair_formula plan.object plan.invariant s.condition s.excepts (outside (length plan.object + length plan.object) plan.invariant s.condition s.excepts)

abbrev pub some_segment_formula : PlanParts → Option Segment → Formula
some_segment_formula plan None = one_state plan.object
some_segment_formula plan (Some s) = segment_formula plan s

abbrev pub closure_formula : PlanParts → ℕ → Formula
closure_formula plan segment = some_segment_formula plan (slice_get plan.segments segment)

-- two states of the invariant, none of them a point, have a merge outside it
abbrev pub whole_closure : PlanParts → List (List ℤ) → Formula
whole_closure plan points = pair_formula plan.object plan.invariant True points (normal_of (length plan.object + length plan.object) plan.invariant false)

-- a state of the invariant is in no segment
abbrev pub uncovered : Segment → Normal
uncovered s = any_left_out 0 s.condition s.excepts

abbrev pub cover_parts : PlanParts → List Normal
cover_parts plan = normal_of 0 plan.invariant true ∷ map uncovered plan.segments

abbrev pub cover_formula : PlanParts → Formula
cover_formula plan = put_all (cover_parts plan) (one_state plan.object)
