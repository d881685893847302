-- What a replica does with the next of its calls, and what it sends.
use Rattle.std.specs.Prelude.{ℕ, ◌&&◌, nat_lt, ℤ, Bool, not, IsTrue, if◌then◌else◌, List, [], ◌∷◌, ◌++◌, length, Option, Some, None, slice_get}
use Rattle.lucy_plan.specs.Calls.{applied}
use Rattle.lucy_plan.specs.Segments.{is_whole, is_in_segment}
use Rattle.lucy_plan.specs.declared.parts.Call.{Call}
use Rattle.lucy_expr.specs.Trees.{Tree, Apply, value, depth}
use Rattle.lucy_expr.specs.Reachability.{lists}
use Rattle.lucy_expr.specs.declared.ids.Id.{Id}
use Rattle.lucy_epochs.specs.Records.{Record}
use Rattle.lucy_replica.specs.Replicas.{Answer, Replica, Message, state_of}
use Rattle.lucy_replica.specs.Replicas as reply
use Rattle.lucy_replica.specs.declared.answers.Submitted.{Submitted}
use Rattle.lucy_replica.specs.declared.answers.Submitted.TheVariants.{Done, Broken, Wants, Ended}

-- the call that it tries next: the one whose place in its work is its number of replies
abbrev pub next_call : Replica → Option Call
next_call replica = slice_get replica.calls (length replica.replies)

-- the ids of the calls that were accepted, in order: those that are done, and those that opened a record
abbrev pub accepted_ids : List Answer → List Id
accepted_ids [] = []
accepted_ids (reply.Done epoch id ∷ replies) = id ∷ accepted_ids replies
accepted_ids (reply.Broken epoch point ∷ replies) = accepted_ids replies
accepted_ids (reply.Moved epoch point id ∷ replies) = id ∷ accepted_ids replies
accepted_ids (reply.Refused point parts ∷ replies) = accepted_ids replies

-- how many of its calls were accepted
abbrev pub accepted : Replica → ℕ
accepted replica = length (accepted_ids replica.replies)

-- the id of the next call that it accepts
abbrev pub next_id : Replica → Id
next_id replica = record { replica = replica.number; count = accepted replica }

-- what a call makes of an expression's value
abbrev pub result_of : Record → Tree → Call → List ℤ
result_of epoch tree call = applied epoch.plan call (value epoch.plan epoch.opening tree)

-- the call's result on the expression's value breaks the invariant
abbrev pub breaks : Record → Tree → Call → Bool
breaks epoch tree call = not (is_whole epoch.plan (result_of epoch tree call))

abbrev pub Breaks : Record → Tree → Call → Type 0
Breaks epoch tree call = IsTrue (breaks epoch tree call)

-- A call is inside at an expression: its transaction is one of the segment's, its result on the expression's value is in the segment, and
-- the expression's depth is below the plan's limit.
abbrev pub is_inside : Record → Tree → Call → Bool
is_inside epoch tree call =
    lists (slice_get epoch.plan.segments epoch.segment) call.txn && is_in_segment epoch.plan epoch.segment (result_of epoch tree call) && nat_lt (depth tree) epoch.plan.depth

abbrev pub IsInside : Record → Tree → Call → Type 0
IsInside epoch tree call = IsTrue (is_inside epoch tree call)

abbrev pub IsOutside : Record → Tree → Call → Type 0
IsOutside epoch tree call = IsTrue (not (is_inside epoch tree call))

-- the replica after a call whose result breaks the invariant
abbrev pub with_broken : Replica → Replica
with_broken replica = record replica {
  wanted = None;
  replies = replica.replies ++ reply.Broken replica.epoch replica.expression.tree ∷ [];
}

-- the replica after a call that it accepted
abbrev pub with_done : Replica → Call → Replica
with_done replica call = record replica {
  expression = record { tree = Apply (next_id replica) call replica.expression.tree; room = replica.expression.room };
  wanted = None;
  replies = replica.replies ++ reply.Done replica.epoch (next_id replica) ∷ [];
}

-- the replica after a call for which it wants a change
abbrev pub with_wanted : Replica → Replica
with_wanted replica = record replica { wanted = Some replica.expression.tree }

-- what a replica answers to a call, if there is one, and what it is then
abbrev pub tried : Replica → Option Call → Submitted × Replica
tried replica None = (Ended, replica)
tried replica (Some call) =
    if breaks replica.epoch replica.expression.tree call then (Broken, with_broken replica)
    else if is_inside replica.epoch replica.expression.tree call then (Done (next_id replica), with_done replica call)
    else (Wants, with_wanted replica)

-- a replica submits its next call
abbrev pub submitted : Replica → Submitted × Replica
submitted replica = tried replica (next_call replica)

-- a replica sends its present record, state and expression
abbrev pub published : Replica → Message
published replica = record { epoch = replica.epoch; state = state_of replica; expression = replica.expression }
