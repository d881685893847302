-- Laws of calls, of segments and of sound plans.
use Rattle.std.specs.Prelude.{◌≡◌, ℕ, ◌<◌, ℤ, ◌==◌, Bool, false, IsTrue, List, length, slice_get, Some, None}
use Rattle.std.specs.List.{list_any}
use Rattle.lucy_model.specs.Numbers.{number_at}
use Rattle.lucy_model.specs.Terms.{term_value}
use Rattle.lucy_model.specs.Merging.{merged}
use Rattle.lucy_plan.specs.declared.parts.Set.{Set}
use Rattle.lucy_plan.specs.declared.parts.Branch.{Branch}
use Rattle.lucy_plan.specs.declared.parts.Call.{Call}
use Rattle.lucy_plan.specs.declared.parts.PlanParts.{PlanParts}
use Rattle.lucy_plan.specs.Calls.{branch_of, applied}
use Rattle.lucy_plan.specs.Segments.{IsWhole, IsInSegment, first_segment, AreStateNumbers}
use Rattle.lucy_plan.specs.Plans.{IsPlan, is_plan}
use Rattle.lucy_plan.specs.Soundness.{IsSound, has_txns}

-- one of the changes sets a leaf
abbrev pub sets_leaf : List Set → ℕ → Bool
sets_leaf sets leaf = list_any (λ change. change.leaf == leaf) sets

-- without a branch whose condition holds, a call leaves the state as it is
abbrev pub CallWithoutBranchStays : Type 0
CallWithoutBranchStays = (plan : PlanParts) (call : Call) (state : List ℤ) → branch_of plan call state ≡ None → applied plan call state ≡ state

-- a leaf that the branch does not set keeps its number
abbrev pub UnsetLeafStays : Type 0
UnsetLeafStays =
    (plan : PlanParts) (call : Call) (state : List ℤ) (branch : Branch) (leaf : ℕ) → branch_of plan call state ≡ Some branch → sets_leaf branch.sets leaf ≡ false
    → number_at (applied plan call state) leaf ≡ number_at state leaf

-- a leaf that the branch sets gets its term's value in the state
abbrev pub SetLeafGetsItsTerm : Type 0
SetLeafGetsItsTerm =
    (plan : PlanParts) (call : Call) (state : List ℤ) (branch : Branch) (place : ℕ) (change : Set) → IsTrue (is_plan plan) → length state ≡ length plan.object → branch_of plan call state ≡ Some branch → slice_get branch.sets place ≡ Some change
    → number_at (applied plan call state) change.leaf ≡ term_value change.to state call.arguments

-- a call keeps the number of leaves
abbrev pub CallKeepsLength : Type 0
CallKeepsLength = (plan : PlanParts) (call : Call) (state : List ℤ) → length (applied plan call state) ≡ length state

-- numbers in a segment satisfy the invariant
abbrev pub SegmentIsWhole : Type 0
SegmentIsWhole = (plan : PlanParts) (segment : ℕ) (numbers : List ℤ) → IsInSegment plan segment numbers → IsWhole plan numbers

-- the first segment of numbers holds them, and none before it does
abbrev pub FirstSegmentIsFirst : Type 0
FirstSegmentIsFirst =
    (plan : PlanParts) (numbers : List ℤ) (segment : ℕ) → first_segment plan numbers ≡ Some segment
    → IsInSegment plan segment numbers × ((earlier : ℕ) → earlier < segment → ¬ (IsInSegment plan earlier numbers))

-- where there is no first segment, no segment holds the numbers
abbrev pub NoFirstSegmentIsNone : Type 0
NoFirstSegmentIsNone = (plan : PlanParts) (numbers : List ℤ) → first_segment plan numbers ≡ None → (segment : ℕ) → ¬ (IsInSegment plan segment numbers)

-- numbers that satisfy the invariant of a plan are a state's
abbrev pub WholeNumbersAreStateNumbers : Type 0
WholeNumbersAreStateNumbers = (plan : PlanParts) (numbers : List ℤ) → IsPlan plan → IsWhole plan numbers → AreStateNumbers numbers

-- in a sound plan, the merge of two states of a segment with a transaction is in that segment
abbrev pub MergeStaysInSegment : Type 0
MergeStaysInSegment =
    (plan : PlanParts) (segment : ℕ) (left right : List ℤ) → IsSound plan → IsTrue (has_txns plan segment) → IsInSegment plan segment left → IsInSegment plan segment right
    → IsInSegment plan segment (merged plan.object left right)
