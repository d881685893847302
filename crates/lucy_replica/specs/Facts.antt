-- What a replica keeps.
use Rattle.std.specs.Prelude.{◌≡◌, ℕ, ◌+◌, ◌<◌, ◌≤◌, ◌==◌, if◌then◌else◌, List, [], ◌∷◌, ◌++◌, length, Option, Some, None, slice_get, Contains}
use Rattle.lucy_plan.specs.Calls.{Fits}
use Rattle.lucy_plan.specs.Segments.{IsInSegment}
use Rattle.lucy_plan.specs.Soundness.{IsSound}
use Rattle.lucy_plan.specs.declared.parts.Call.{Call}
use Rattle.lucy_expr.specs.Trees.{Tree, Start, Apply, Merge, spine, depth}
use Rattle.lucy_expr.specs.declared.ids.Id.{Id}
use Rattle.lucy_epochs.specs.Records.{Record}
use Rattle.lucy_epochs.specs.Contributions.{Contribution, IsMade}
use Rattle.lucy_epochs.specs.Rulings.{BreaksOn}
use Rattle.lucy_replica.specs.Replicas.{Answer, Done, Broken, Moved, Refused, Stay, Replica, present, stays}
use Rattle.lucy_replica.specs.Submitting.{accepted_ids, next_call, Breaks, IsOutside}

-- ---- calls that were accepted

-- the ids are the replica's, with this count and those after it, in order
abbrev pub AreCounted : ℕ → ℕ → List Id → Type 0
AreCounted number count [] = Unit {0}
AreCounted number count (id ∷ ids) = (id ≡ record { replica = number; count = count }) × AreCounted number (count + 1) ids

-- the calls that are done in the record of this number, each with its id, in order
abbrev pub done_in : ℕ → List Call → List Answer → List (Id × Call)
done_in number (call ∷ calls) (Done epoch id ∷ replies) =
    if epoch.number == number then (id, call) ∷ done_in number calls replies else done_in number calls replies
done_in number (call ∷ calls) (Broken epoch point ∷ replies) = done_in number calls replies
done_in number (call ∷ calls) (Moved epoch point id ∷ replies) = done_in number calls replies
done_in number (call ∷ calls) (Refused point parts ∷ replies) = done_in number calls replies
done_in number _ _ = []

-- the calls of the spine, each with its id, from the innermost outward
abbrev pub spine_calls : Tree → List (Id × Call)
spine_calls Start = []
spine_calls (Apply id call inner) = spine_calls inner ++ (id, call) ∷ []
spine_calls (Merge left right) = spine_calls left

-- ---- where a replica was

-- this record is one of the replica's
abbrev pub WasIn : Replica → Record → Type 0
WasIn replica epoch = (stay : Stay) × Contains (stays replica) stay × (stay.epoch ≡ epoch)

-- this record is one of the replica's, and the expression is on its spine there
abbrev pub WasAt : Replica → Record → Tree → Type 0
WasAt replica epoch point = (stay : Stay) × Contains (stays replica) stay × (stay.epoch ≡ epoch) × Contains (spine stay.tree) point

-- what a replica has of a record
pub record IsStay (replica : Replica) (stay : Stay) : Type 0 where
  -- the record is of its plan
  pub plan_is : stay.epoch.plan ≡ replica.epoch.plan
  -- the expression is reachable from the record's opening, and the state is its value
  pub made : IsMade stay.epoch stay.state stay.tree
  -- the state is in the record's segment
  pub within : IsInSegment stay.epoch.plan stay.epoch.segment stay.state
  -- the expression is no deeper than the plan allows
  pub shallow : depth stay.tree ≤ stay.epoch.plan.depth
  -- the calls that are done in the record are those of the spine
  pub done : done_in stay.epoch.number replica.calls replica.replies ≡ spine_calls stay.tree

-- ---- replies

-- the call opened this record
pub record IsMoved (replica : Replica) (place : ℕ) (call : Call) (epoch : Record) (point : Tree) (id : Id) : Type 0 where
  -- the record is one of the replica's, and it names the call
  pub in_record : WasIn replica epoch
  pub by_is : epoch.by ≡ Some (record { replica = replica.number; place = place; count = id.count })
  -- in the record before, the replica was at the point, and the call was not inside there
  pub before : Record
  pub before_is : before.number + 1 ≡ epoch.number
  pub at_point : WasAt replica before point
  pub outside : IsOutside before point call

-- the call was refused by all replicas
pub record IsRefused (replica : Replica) (call : Call) (point : Tree) (parts : List Contribution) : Type 0 where
  -- one of the parts is the replica's own, and the replica was at its expression
  pub own : Contribution
  pub own_is : slice_get parts replica.number ≡ Some own
  pub at_own : WasAt replica own.epoch own.expression.tree
  -- the parts are one for each replica, in the order of their numbers, all of one record
  pub seats : (place : ℕ) (part : Contribution) → slice_get parts place ≡ Some part → part.replica ≡ place
  pub of_one : (place : ℕ) (part : Contribution) → slice_get parts place ≡ Some part → part.epoch ≡ own.epoch
  -- the expression of each is reachable from its record's opening, and its state is the value
  pub made : (place : ℕ) (part : Contribution) → slice_get parts place ≡ Some part → IsMade part.epoch part.state part.expression.tree
  -- in that record the replica was at the point, and the call was not inside there
  pub at_point : WasAt replica own.epoch point
  pub outside : IsOutside own.epoch point call
  -- the call's result on the merge of the parts breaks the invariant
  pub breaks : BreaksOn own.epoch parts call

-- a reply is right for the call at this place
abbrev pub IsRight : Replica → ℕ → Call → Answer → Type 0
IsRight replica place call (Done epoch id) = WasIn replica epoch
IsRight replica place call (Broken epoch point) = WasAt replica epoch point × Breaks epoch point call
IsRight replica place call (Moved epoch point id) = IsMoved replica place call epoch point id
IsRight replica place call (Refused point parts) = IsRefused replica call point parts

-- where the replica wants a change, it was at the point, and has a next call, which was not inside there
pub record IsWanted (replica : Replica) (point : Tree) : Type 0 where
  pub at_point : Contains (spine replica.expression.tree) point
  pub call : Call
  pub call_is : next_call replica ≡ Some call
  pub outside : IsOutside replica.epoch point call

-- ---- the records of accepted calls

-- the number of the record in which a call was accepted, if it was
abbrev pub accepted_in : Answer → Option ℕ
accepted_in (Done epoch id) = Some epoch.number
accepted_in (Broken epoch point) = None
accepted_in (Moved epoch point id) = Some epoch.number
accepted_in (Refused point parts) = None

-- they never fall
abbrev pub NeverFall : List Answer → Type 0
NeverFall replies =
    (earlier later : ℕ) (first second : Answer) (m n : ℕ) → earlier ≤ later → slice_get replies earlier ≡ Some first → slice_get replies later ≡ Some second
    → accepted_in first ≡ Some m → accepted_in second ≡ Some n → m ≤ n

-- ---- all together
pub record IsSettled (replica : Replica) : Type 0 where
  -- the plan is sound, and the calls fit it
  pub sound : IsSound replica.epoch.plan
  pub fits : (place : ℕ) (call : Call) → slice_get replica.calls place ≡ Some call → Fits replica.epoch.plan call
  pub few : length replica.calls ≤ 4096
  -- the replica is one of those that its expression has room for
  pub room : replica.number < replica.expression.room
  -- its records are numbered in order from 0, the present one last
  pub closed_numbers : (place : ℕ) (stay : Stay) → slice_get replica.closings place ≡ Some stay → stay.epoch.number ≡ place
  pub present_number : replica.epoch.number ≡ length replica.closings
  -- what it had of them, and what it has of the present one
  pub closed : (place : ℕ) (stay : Stay) → slice_get replica.closings place ≡ Some stay → IsStay replica stay
  pub open_stay : IsStay replica (present replica)
  -- there is a call for each reply, for which it is right
  pub answered : (place : ℕ) (answer : Answer) → slice_get replica.replies place ≡ Some answer
      → (call : Call) × (slice_get replica.calls place ≡ Some call) × IsRight replica place call answer
  -- the records of accepted calls never fall
  pub rising : NeverFall replica.replies
  -- the ids of the accepted calls have the counts 0, 1 and so on
  pub counted : AreCounted replica.number 0 (accepted_ids replica.replies)
  -- where it wants a change
  pub wanting : (point : Tree) → replica.wanted ≡ Some point → IsWanted replica point
