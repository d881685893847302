-- Confluence, and what the end of a session says of it.
use Rattle.std.specs.Prelude.{◌≡◌, false, ℤ, List}
use Rattle.lucy_model.specs.Merging.{merged}
use Rattle.lucy_plan.specs.Segments.{IsWhole, is_whole, is_among}
use Rattle.lucy_plan.specs.declared.parts.PlanParts.{PlanParts}
use Rattle.lucy_expr.specs.Trees.{Tree, value}
use Rattle.lucy_expr.specs.Reachability.{IsReached}
use Rattle.lucy_closure.specs.Meanings.{IsWholeClosedOff}

-- each state that is reached from the plan's start satisfies the invariant
abbrev pub IsConfluent : PlanParts → Type 0
IsConfluent plan = (tree : Tree) → IsReached plan tree → IsWhole plan (value plan plan.start tree)

-- no state that is reached is one of these points
abbrev pub AreUnreached : PlanParts → List (List ℤ) → Type 0
AreUnreached plan points = (tree : Tree) → IsReached plan tree → is_among points (value plan plan.start tree) ≡ false

-- the plan is confluent if none of these points is reached
abbrev pub IsConfluentWithout : PlanParts → List (List ℤ) → Type 0
IsConfluentWithout plan points = AreUnreached plan points → IsConfluent plan

-- where the merge of any two states of the invariant, neither of them a point, satisfies it
abbrev pub ClosedIsConfluent : Type 0
ClosedIsConfluent = (plan : PlanParts) (points : List (List ℤ)) → IsWholeClosedOff plan points → IsConfluentWithout plan points

-- two expressions that are reached and whose merge breaks the invariant
abbrev pub BrokenIsNotConfluent : Type 0
BrokenIsNotConfluent =
    (plan : PlanParts) (left right : Tree) → IsReached plan left → IsReached plan right
    → is_whole plan (merged plan.object (value plan plan.start left) (value plan plan.start right)) ≡ false → ¬ (IsConfluent plan)
