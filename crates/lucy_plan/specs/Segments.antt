-- The invariant of a plan, and its segments.
use Rattle.std.specs.Prelude.{ℕ, ℤ, ◌≤ℤ◌, ◌<ℤ◌, neg_ℤ, pos, ◌^◌, Bool, false, ◌&&◌, not, IsTrue, List, [], length, ◌<◌, All, Option, Some, None, slice_get}
use Rattle.std.specs.List.{list_any, position_from}
use Rattle.std.specs.Ordering.{int_eq}
use Rattle.std.specs.Cmp.Lexicographic.{pointwise}
use Rattle.lucy_model.specs.Ranges.{all_allowed}
use Rattle.lucy_model.specs.Conditions.{holds_at}
use Rattle.lucy_plan.specs.declared.parts.Segment.{Segment}
use Rattle.lucy_plan.specs.declared.parts.PlanParts.{PlanParts}

-- the numbers are in their leaves' ranges, one for each leaf, and the declared invariant holds of them
abbrev pub is_whole : PlanParts → List ℤ → Bool
is_whole plan numbers = all_allowed plan.object numbers && holds_at plan.invariant numbers []

-- the numbers satisfy the invariant
abbrev pub IsWhole : PlanParts → List ℤ → Type 0
IsWhole plan numbers = IsTrue (is_whole plan numbers)

-- the numbers are one of these points
abbrev pub is_among : List (List ℤ) → List ℤ → Bool
is_among points numbers = list_any (λ point. pointwise int_eq point numbers) points

-- the numbers satisfy the invariant and the segment's condition, and are none of its left-out points
abbrev pub is_in : PlanParts → Segment → List ℤ → Bool
is_in plan segment numbers = is_whole plan numbers && holds_at segment.condition numbers [] && not (is_among segment.excepts numbers)

-- the same of a segment that may not be there
abbrev pub is_in_some : PlanParts → Option Segment → List ℤ → Bool
is_in_some plan None numbers = false
is_in_some plan (Some segment) numbers = is_in plan segment numbers

-- the numbers are in the plan's segment of this number
abbrev pub is_in_segment : PlanParts → ℕ → List ℤ → Bool
is_in_segment plan segment numbers = is_in_some plan (slice_get plan.segments segment) numbers

-- the numbers are in that segment
abbrev pub IsInSegment : PlanParts → ℕ → List ℤ → Type 0
IsInSegment plan segment numbers = IsTrue (is_in_segment plan segment numbers)

-- the first segment in which the numbers are, if there is one
abbrev pub first_segment : PlanParts → List ℤ → Option ℕ
first_segment plan numbers = position_from (λ segment. is_in plan segment numbers) 0 plan.segments

-- a number of a state
abbrev pub IsStateNumber : ℤ → Type 0
IsStateNumber x = (neg_ℤ (pos (2 ^ 63)) ≤ℤ x) × (x <ℤ pos (2 ^ 63))

-- the numbers are those of a state: each is one, and their places are numbered by 32 bits
pub record AreStateNumbers (numbers : List ℤ) : Type 0 where
  pub few : length numbers < 2 ^ 32
  pub each : All IsStateNumber numbers
