-- The walk of a seed.
use Rattle.std.specs.Prelude.{◌≡◌, ℕ, ◌==◌, nat_le, ◌&&◌, ◌||◌, Bool, true, false, ℤ, if◌then◌else◌, List, [], ◌∷◌, ◌++◌, length, Option, Some, None, option_map, slice_index_or, zero, suc}
use Rattle.std.specs.Ordering.{int_eq}
use Rattle.std.specs.Cmp.Lexicographic.{pointwise}
use Rattle.rand_pcg.specs.Lcg.{Lcg}
use Rattle.lucy_net.specs.Draws.{drawn, generator_of}
use Rattle.lucy_plan.specs.Calls.{applied}
use Rattle.lucy_plan.specs.Segments.{is_whole}
use Rattle.lucy_plan.specs.declared.parts.Call.{Call}
use Rattle.lucy_plan.specs.declared.parts.PlanParts.{PlanParts}
use Rattle.lucy_expr.specs.Trees.{Tree, Start, Apply, Merge, value}
use Rattle.lucy_walks.specs.Drawing.{drawn_call}
use Rattle.lucy_walks.specs.Sketches.{unnamed, size, named}

-- the greatest number of nodes of an expression of a walk
abbrev pub most_nodes : ℕ
most_nodes = 1000

-- one of the expressions of the pool
unfoldable pub picked : List Tree → Lcg → Tree × Lcg
picked pool generator =
    let place = drawn (length pool) generator in
    (slice_index_or pool place.0 Start, place.1)

-- the merge of two of them, the left one drawn first
unfoldable pub merge_of : List Tree → Lcg → Tree × Lcg
merge_of pool generator =
    let left = picked pool generator in
    let right = picked pool left.1 in
    (Merge left.0 right.0, right.1)

-- a call of replica 0, applied to one of them
unfoldable pub call_on : PlanParts → List Tree → Lcg → Tree × Lcg
call_on plan pool generator =
    let inner = picked pool generator in
    let call = drawn_call plan inner.1 in
    (Apply (unnamed 0) call.0 inner.0, call.1)

-- what a round makes of the pool: a merge in one of four cases, and where there are no transactions
unfoldable pub made : PlanParts → List Tree → Lcg → Tree × Lcg
made plan pool generator =
    let kind = drawn 4 generator in
    if kind.0 == 3 || length plan.txns == 0 then merge_of pool kind.1 else call_on plan pool kind.1

-- the result of a call satisfies the invariant
abbrev pub may_enter : PlanParts → Tree → Bool
may_enter plan Start = true
may_enter plan (Apply id call inner) = is_whole plan (value plan plan.start (Apply id call inner))
may_enter plan (Merge left right) = true

-- the result of a call on a state, which satisfies the invariant, or there is none since it breaks it
abbrev pub ResultIs : PlanParts → Call → List ℤ → Option (List ℤ) → Type 0
ResultIs plan call state None = is_whole plan (applied plan call state) ≡ false
ResultIs plan call state (Some result) = (is_whole plan (applied plan call state) ≡ true) × (result ≡ applied plan call state) × (length result ≡ length plan.object)

-- what is made enters the pool: it has at most 1,000 nodes, and the result of a call satisfies the invariant
abbrev pub enters : PlanParts → Tree → Bool
enters plan tree = nat_le (size tree) most_nodes && may_enter plan tree

-- an expression's value is the goal
abbrev pub gives : PlanParts → List ℤ → Tree → Bool
gives plan goal tree = pointwise int_eq (value plan plan.start tree) goal

-- the rounds that are left, from a pool on: the first expression that enters the pool and gives the goal ends the walk
abbrev pub walk_on : PlanParts → List ℤ → ℕ → List Tree → Lcg → Option Tree
walk_on plan goal zero pool generator = None
walk_on plan goal (suc rounds) pool generator =
    let next = made plan pool generator in
    if enters plan next.0
    then (if gives plan goal next.0 then Some next.0 else walk_on plan goal rounds (pool ++ next.0 ∷ []) next.1)
    else walk_on plan goal rounds pool next.1

-- the expression of the goal that the walk of a seed and a length meets, if there is one; the pool begins with the start
unfoldable pub walked : PlanParts → ℕ → ℕ → List ℤ → Option Tree
walked plan seed rounds goal =
    option_map named (if gives plan goal Start then Some Start else walk_on plan goal rounds (Start ∷ []) (generator_of seed))
