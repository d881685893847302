-- What a life's methods need of what it keeps.
use Rattle.std.proofs.Common.{◌≡◌, ◌<◌, ◌≤◌, ◌&&◌, ℕ, ℤ, List, [], ◌∷◌, length, refl, sym, subst, arith}
use Rattle.std.specs.Prelude.{Option, Some, None, slice_get, IsTrue, not}
use Rattle.std.specs.Arc.{arc_value}
use Rattle.std.proofs.lemmas.Option.{slice_get_within}
use Rattle.lucy_model.specs.Laws.{MergeIsIdempotent}
use Rattle.lucy_plan.specs.Laws.{SegmentIsWhole}
use Rattle.lucy_model.specs.Conditions.{holds_at}
use Rattle.lucy_plan.specs.declared.parts.Call.{Call}
use Rattle.lucy_plan.specs.declared.parts.Segment.{Segment}
use Rattle.lucy_plan.specs.declared.parts.PlanParts.{PlanParts}
use Rattle.lucy_plan.specs.Segments.{IsWhole, is_whole, is_among, is_in_some}
use Rattle.lucy_expr.specs.Trees.{value}
use Rattle.lucy_expr.specs.Laws.{ClosedSegmentHoldsValues}
use Rattle.lucy_epochs.specs.Records.{Record}
use Rattle.lucy_epochs.specs.Contributions.{IsMade}
use Rattle.lucy_replica.specs.Replicas.{Answer, Done, Broken, Moved, Refused, Replica, Message, state_of}
use Rattle.lucy_replica.specs.Submitting.{accepted_ids, next_call}
use Rattle.lucy_replica.specs.Facts.{IsSettled}
use Rattle.lucy_replica.specs.Views.{replica_of, IsLife}
use Rattle.lucy_replica.specs.declared.life.Life.TheInside.{Inside}
use Rattle.lucy_replica.proofs.Staying.{left_true, whole_length, value_within}
use Rattle.lucy_replica.proofs.Settling.{reachable_here}

some_whole : (plan : PlanParts) (segment : Option Segment) (numbers : List ℤ) → IsTrue (is_in_some plan segment numbers) → IsWhole plan numbers
some_whole plan None numbers h = cc
some_whole plan (Some segment) numbers h =
    left_true (is_whole plan numbers) (holds_at segment.condition numbers [])
    (left_true (is_whole plan numbers && holds_at segment.condition numbers []) (not (is_among segment.excepts numbers)) h)

some_there : (plan : PlanParts) (segments : List Segment) (segment : ℕ) (numbers : List ℤ) (found : Option Segment) → slice_get segments segment ≡ found
    → IsTrue (is_in_some plan found numbers) → segment < length segments
some_there plan segments segment numbers None is h = cc
some_there plan segments segment numbers (Some found) is h = slice_get_within segments segment found is

-- a settled replica's state satisfies the invariant
pub settled_whole : (r : Replica) → IsSettled r → IsWhole r.epoch.plan (state_of r)
settled_whole r s = some_whole r.epoch.plan (slice_get r.epoch.plan.segments r.epoch.segment) (state_of r) s.open_stay.within

-- its segment is one of the plan's
pub settled_segment : (r : Replica) → IsSettled r → r.epoch.segment < length r.epoch.plan.segments
settled_segment r s =
    some_there r.epoch.plan r.epoch.plan.segments r.epoch.segment (state_of r) (slice_get r.epoch.plan.segments r.epoch.segment) refl s.open_stay.within

-- a life's state has a number for each leaf
pub state_length : (a : Inside) → IsLife a → length (arc_value a.state) ≡ length (arc_value a.epoch).plan.object
state_length a k = rw k.state_is (whole_length (arc_value a.epoch).plan (state_of (replica_of a)) (settled_whole (replica_of a) k.settled))

accepted_few : (replies : List Answer) → length (accepted_ids replies) ≤ length replies
accepted_few [] = omega arith
accepted_few (Done epoch id ∷ replies) = omega (arith, accepted_few replies)
accepted_few (Broken epoch point ∷ replies) = omega (arith, accepted_few replies)
accepted_few (Moved epoch point id ∷ replies) = omega (arith, accepted_few replies)
accepted_few (Refused point parts ∷ replies) = omega (arith, accepted_few replies)

-- while it has a next call, it has accepted fewer than 4,096
pub few_accepted : (a : Inside) (call : Call) → IsLife a → next_call (replica_of a) ≡ Some call → a.accepted < 4096
few_accepted a call k next =
    let r = replica_of a in
    let within = slice_get_within r.calls (length r.replies) call next in
    omega (arith, accepted_few r.replies, k.accepted_is, within, k.settled.few)

-- what was sent from the replica's own record has the state that its expression gives there
pub state_here : (r : Replica) (m : Message) → r.epoch ≡ m.epoch → IsMade m.epoch m.state m.expression.tree → m.state ≡ value r.epoch.plan r.epoch.opening m.expression.tree
state_here r m same made = subst (λ (e : Record). m.state ≡ value e.plan e.opening m.expression.tree) (sym same) made.state_is

-- and a number for each leaf
pub message_length : (r : Replica) (m : Message) → ClosedSegmentHoldsValues → MergeIsIdempotent → SegmentIsWhole → IsSettled r → r.epoch ≡ m.epoch
    → IsMade m.epoch m.state m.expression.tree → length m.state ≡ length r.epoch.plan.object
message_length r m holds idempotent whole s same made =
    let within = value_within r.epoch.plan r.epoch.segment r.epoch.opening m.expression.tree holds idempotent whole s.sound (reachable_here m r same made) in
    rw (state_here r m same made)
    (whole_length r.epoch.plan (value r.epoch.plan r.epoch.opening m.expression.tree)
    (whole r.epoch.plan r.epoch.segment (value r.epoch.plan r.epoch.opening m.expression.tree) within))
