-- Laws of expressions.
use Rattle.std.specs.Prelude.{◌≡◌, ℕ, ◌+◌, ◌<◌, ℤ, ◌↔◌, ◌⊎◌, List, [], ◌∷◌, ◌++◌, Contains}
use Rattle.lucy_plan.specs.Segments.{IsWhole, is_whole, IsInSegment, is_in_segment}
use Rattle.lucy_plan.specs.Soundness.{IsMergeClosed}
use Rattle.lucy_plan.specs.declared.parts.PlanParts.{PlanParts}
use Rattle.lucy_expr.specs.declared.ids.Id.{Id}
use Rattle.lucy_expr.specs.Trees.{Tree, Start, Merge, value, spine, nodes, ids, reach}
use Rattle.lucy_expr.specs.Reachability.{IsReachable, IsReached}

-- a spine is the expression, and some more
abbrev pub SpineBeginsWithItself : Type 0
SpineBeginsWithItself = (tree : Tree) → (rest : List Tree) × (spine tree ≡ tree ∷ rest)

-- a spine is some expressions, and then the opening state
abbrev pub SpineEndsWithStart : Type 0
SpineEndsWithStart = (tree : Tree) → (before : List Tree) × (spine tree ≡ before ++ Start ∷ [])

-- what is on the spine is a node
abbrev pub SpineIsInTree : Type 0
SpineIsInTree = (tree node : Tree) → Contains (spine tree) node → Contains (nodes tree) node

-- the ids of a merge are those of both its parts
abbrev pub MergeKeepsIds : Type 0
MergeKeepsIds = (left right : Tree) (id : Id) → Contains (ids (Merge left right)) id ↔ (Contains (ids left) id ⊎ Contains (ids right) id)

-- each id's count is below the reach of its replica
abbrev pub ReachCoversIds : Type 0
ReachCoversIds = (tree : Tree) (id : Id) → Contains (ids tree) id → id.count < reach id.replica tree

-- a reach above 0 is that of some id
abbrev pub ReachIsReached : Type 0
ReachIsReached =
    (tree : Tree) (replica : ℕ) → 0 < reach replica tree
    → (id : Id) × Contains (ids tree) id × (id.replica ≡ replica) × (id.count + 1 ≡ reach replica tree)

-- a merge closed segment holds the value of each expression that is reachable within it
abbrev pub ClosedSegmentHoldsValues : Type 0
ClosedSegmentHoldsValues =
    (plan : PlanParts) (segment : ℕ) (opening : List ℤ) (tree : Tree)
    → IsMergeClosed plan.object (is_in_segment plan segment) → IsReachable plan segment opening tree
    → IsInSegment plan segment (value plan opening tree)

-- a merge closed invariant holds of the value of each expression that is reached from the start
abbrev pub ClosedWholeHoldsValues : Type 0
ClosedWholeHoldsValues =
    (plan : PlanParts) (tree : Tree) → IsMergeClosed plan.object (is_whole plan) → IsReached plan tree → IsWhole plan (value plan plan.start tree)
