-- Plans under which no merge leaves its segment.
use Rattle.std.specs.Prelude.{ℕ, ℤ, Bool, IsTrue, is_some, nat_lt, length, List, Option, Some, None, slice_get, false}
use Rattle.lucy_model.specs.Merging.{merged}
use Rattle.lucy_model.specs.declared.leaves.Leaf.{Leaf}
use Rattle.lucy_plan.specs.Segments.{IsWhole, is_in_segment, first_segment}
use Rattle.lucy_plan.specs.declared.parts.Segment.{Segment}
use Rattle.lucy_plan.specs.declared.parts.PlanParts.{PlanParts}

-- the merge of any two states that pass a test passes it
abbrev pub IsMergeClosed : List Leaf → (List ℤ → Bool) → Type 0
IsMergeClosed object test = (left right : List ℤ) → IsTrue (test left) → IsTrue (test right) → IsTrue (test (merged object left right))

-- a segment has a transaction
abbrev pub runs_some : Option Segment → Bool
runs_some None = false
runs_some (Some segment) = nat_lt 0 (length segment.txns)

-- the plan's segment of this number has a transaction
abbrev pub has_txns : PlanParts → ℕ → Bool
has_txns plan segment = runs_some (slice_get plan.segments segment)

-- each state that satisfies the invariant is in a segment
abbrev pub IsCovered : PlanParts → Type 0
IsCovered plan = (state : List ℤ) → IsWhole plan state → IsTrue (is_some (first_segment plan state))

-- a sound plan
pub record IsSound (plan : PlanParts) : Type 0 where
  -- its start satisfies the invariant
  pub start : IsWhole plan plan.start
  -- its segments cover the invariant
  pub covered : IsCovered plan
  -- each segment with a transaction is merge closed
  pub closed : (segment : ℕ) → IsTrue (has_txns plan segment) → IsMergeClosed plan.object (is_in_segment plan segment)
