-- Expressions as trees, and what they mean.
use Rattle.std.specs.Prelude.{ℕ, ◌+◌, ◌==◌, max, if◌then◌else◌, ℤ, List, [], ◌∷◌, ◌++◌}
use Rattle.lucy_model.specs.Merging.{merged}
use Rattle.lucy_plan.specs.Calls.{applied}
use Rattle.lucy_plan.specs.declared.parts.Call.{Call}
use Rattle.lucy_plan.specs.declared.parts.PlanParts.{PlanParts}
use Rattle.lucy_expr.specs.declared.ids.Id.{Id}
use Rattle.lucy_expr.specs.declared.turns.Turn.{Turn}
use Rattle.lucy_expr.specs.declared.turns.Turn.TheVariants as turn

-- an expression: the opening state, a call applied to an expression, or the merge of two
pub data Tree : Type 0 where
  Start : Tree
  Apply : (id : Id) → (call : Call) → (inner : Tree) → Tree
  Merge : (left : Tree) → (right : Tree) → Tree

-- the state that an expression gives from an opening state
abbrev pub value : PlanParts → List ℤ → Tree → List ℤ
value plan opening Start = opening
value plan opening (Apply id call inner) = applied plan call (value plan opening inner)
value plan opening (Merge left right) = merged plan.object (value plan opening left) (value plan opening right)

-- one more than the depth of the deeper part, 0 at the opening state
abbrev pub depth : Tree → ℕ
depth Start = 0
depth (Apply id call inner) = depth inner + 1
depth (Merge left right) = max (depth left) (depth right) + 1

-- the expression, followed by the spine of its inner or left part
abbrev pub spine : Tree → List Tree
spine Start = Start ∷ []
spine (Apply id call inner) = Apply id call inner ∷ spine inner
spine (Merge left right) = Merge left right ∷ spine left

-- all nodes, each with what is below it: from the outside inward, a left part before the right one
abbrev pub nodes : Tree → List Tree
nodes Start = Start ∷ []
nodes (Apply id call inner) = Apply id call inner ∷ nodes inner
nodes (Merge left right) = Merge left right ∷ (nodes left ++ nodes right)

-- an expression's outermost node, without what is below it
abbrev pub turn_of : Tree → Turn
turn_of Start = turn.Start
turn_of (Apply id call inner) = turn.Apply id call
turn_of (Merge left right) = turn.Merge

-- all nodes, each without what is below it: from the outside inward, a left part before the right one
abbrev pub turns : Tree → List Turn
turns Start = turn.Start ∷ []
turns (Apply id call inner) = turn.Apply id call ∷ turns inner
turns (Merge left right) = turn.Merge ∷ (turns left ++ turns right)

-- the ids of all calls in it
abbrev pub ids : Tree → List Id
ids Start = []
ids (Apply id call inner) = id ∷ ids inner
ids (Merge left right) = ids left ++ ids right

-- one more than the greatest count among a replica's ids in it, 0 where there is none
abbrev pub reach : ℕ → Tree → ℕ
reach replica Start = 0
reach replica (Apply id call inner) = max (if id.replica == replica then id.count + 1 else 0) (reach replica inner)
reach replica (Merge left right) = max (reach replica left) (reach replica right)
