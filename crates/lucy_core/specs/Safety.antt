-- Which worlds are safe, and what the steps keep.
use Rattle.std.specs.Prelude.{◌≡◌, ◌⊎◌, ℕ, ◌+◌, ◌≤◌, ◌<◌, Bool, true, false, List, ◌++◌, length, map, Some, slice_get, Contains}
use Rattle.lucy_plan.specs.Segments.{IsWhole, IsInSegment}
use Rattle.lucy_plan.specs.declared.parts.Call.{Call}
use Rattle.lucy_expr.specs.Trees.{Tree, Apply, nodes}
use Rattle.lucy_expr.specs.declared.ids.Id.{Id}
use Rattle.lucy_epochs.specs.declared.causes.By.{By}
use Rattle.lucy_epochs.specs.Records.{Record, first_record}
use Rattle.lucy_epochs.specs.Contributions.{Contribution, IsMade}
use Rattle.lucy_epochs.specs.Rulings.{Ruling, Opened, Nothing, BreaksOn}
use Rattle.lucy_epochs.specs.Rulings as ruling
use Rattle.lucy_replica.specs.Replicas.{Done, Broken, Moved, Refused, Stay, Replica, Message, stays, state_of}
use Rattle.lucy_replica.specs.Submitting.{accepted_ids, next_call, Breaks, IsOutside}
use Rattle.lucy_replica.specs.Changing.{contributed, next_by}
use Rattle.lucy_replica.specs.Facts.{AreCounted, done_in, spine_calls, WasIn, WasAt, IsMoved, IsWanted, NeverFall, IsSettled}
use Rattle.lucy_replica.specs.Openings.{IsOpening, IsReplied, contents_of}
use Rattle.lucy_core.specs.Worlds.{World, Course, Idle, Freezing, Decided, entry, lags, IsAt, IsSent, IsListed}

-- ---- states and records

-- the replica's state is in its record's segment, and satisfies the invariant
pub record StateFits (replica : Replica) : Type 0 where
  pub within : IsInSegment replica.epoch.plan replica.epoch.segment (state_of replica)
  pub whole : IsWhole replica.epoch.plan (state_of replica)

-- the records are in order
pub record AreInOrder (w : World) : Type 0 where
  -- the first is the first record of its plan
  pub first : Record
  pub first_is : slice_get w.records 0 ≡ Some first
  pub begins : first ≡ first_record first.plan
  -- each stands at the place of its number
  pub numbered : (place : ℕ) (epoch : Record) → slice_get w.records place ≡ Some epoch → epoch.number ≡ place
  -- those that a replica had, the present one last, are the front of the list
  pub fronts : (number : ℕ) (replica : Replica) → IsAt w number replica
      → (later : List Record) × (w.records ≡ map (λ stay. stay.epoch) (stays replica) ++ later)

-- ---- calls on spines

-- the replica of this number had this expression on its spine in this record
abbrev pub IsOnSpineOf : World → ℕ → Record → Tree → Type 0
IsOnSpineOf w number epoch point = (owner : Replica) × IsAt w number owner × WasAt owner epoch point

-- each call in an expression of this record is on the spine, there, of the replica that accepted it
abbrev pub AreOnSpines : World → Record → Tree → Type 0
AreOnSpines w epoch tree =
    (id : Id) (call : Call) (inner : Tree) → Contains (nodes tree) (Apply id call inner) → IsOnSpineOf w id.replica epoch (Apply id call inner)

-- ---- what the openings contain

-- the openings contain what the replica accepted
pub record AreContained (w : World) (replica : Replica) : Type 0 where
  -- a call that is done in a record is in every later opening
  pub done : (place : ℕ) (epoch : Record) (id : Id) (later : ℕ) → slice_get replica.replies place ≡ Some (Done epoch id)
      → epoch.number < later → later < length w.records → Contains (contents_of w.replicas w.records later) id
  -- a call that opened a record is in its opening
  pub moved : (place : ℕ) (epoch : Record) (point : Tree) (id : Id) → slice_get replica.replies place ≡ Some (Moved epoch point id)
      → Contains (contents_of w.replicas w.records epoch.number) id

-- ---- replies

-- at this point, which was on the replica's spine in this record, the result of the call at this place breaks the invariant
pub record IsCause (replica : Replica) (place : ℕ) (epoch : Record) (point : Tree) : Type 0 where
  pub call : Call
  pub call_is : slice_get replica.calls place ≡ Some call
  pub at_point : WasAt replica epoch point
  pub breaks : Breaks epoch point call

-- the parts are one for each replica, each of which was at its expression in the part's record
pub record AreParts (replicas : List Replica) (parts : List Contribution) : Type 0 where
  pub many : length parts ≡ length replicas
  pub on_spines : (place : ℕ) (part : Contribution) → slice_get parts place ≡ Some part
      → (owner : Replica) × (slice_get replicas place ≡ Some owner) × WasAt owner part.epoch part.expression.tree

-- The call at this place was refused: there is one part for each replica, all of one record, and the call's result on their merge breaks
-- the invariant. In that record the replica was at the point, where the call was not inside.
pub record IsRefusal (w : World) (replica : Replica) (place : ℕ) (point : Tree) (parts : List Contribution) : Type 0 where
  pub call : Call
  pub call_is : slice_get replica.calls place ≡ Some call
  pub epoch : Record
  pub of_one : (seat : ℕ) (part : Contribution) → slice_get parts seat ≡ Some part → part.epoch ≡ epoch
  pub seats : (seat : ℕ) (part : Contribution) → slice_get parts seat ≡ Some part → part.replica ≡ seat
  pub are_parts : AreParts w.replicas parts
  pub breaks : BreaksOn epoch parts call
  pub at_point : WasAt replica epoch point
  pub outside : IsOutside epoch point call

-- the replies answer the calls in order
pub record AreAnswered (replica : Replica) : Type 0 where
  -- the replies are to the first calls, one to each
  pub few : length replica.replies ≤ length replica.calls
  -- a call is accepted in a record of the replica, and the records of those that were never fall
  pub done_in_records : (place : ℕ) (epoch : Record) (id : Id) → slice_get replica.replies place ≡ Some (Done epoch id) → WasIn replica epoch
  pub moved_in_records : (place : ℕ) (epoch : Record) (point : Tree) (id : Id) → slice_get replica.replies place ≡ Some (Moved epoch point id) → WasIn replica epoch
  pub never_fall : NeverFall replica.replies
  -- the calls that are done in a record are, in order, those of the spine there, with their ids
  pub done : (stay : Stay) → Contains (stays replica) stay → done_in stay.epoch.number replica.calls replica.replies ≡ spine_calls stay.tree

-- ---- all together

-- a world is safe
pub record IsSafe (w : World) : Type 0 where
  -- each replica's state is in its record's segment, and satisfies the invariant
  pub states_fit : (number : ℕ) (replica : Replica) → IsAt w number replica → StateFits replica
  -- what a replica has of each of its records is reachable from the record's opening within its segment, and the state is its value
  pub reachable : (number : ℕ) (replica : Replica) (stay : Stay) → IsAt w number replica → Contains (stays replica) stay → IsMade stay.epoch stay.state stay.tree
  -- the records are in order
  pub records_in_order : AreInOrder w
  -- each call in an expression of a replica is on the spine of the replica that accepted it
  pub applies_on_spines : (number : ℕ) (replica : Replica) (stay : Stay) → IsAt w number replica → Contains (stays replica) stay → AreOnSpines w stay.epoch stay.tree
  -- and so is each call in an expression that was sent
  pub sent_applies_on_spines : (packet : ℕ) (message : Message) → IsSent w packet message → AreOnSpines w message.epoch message.expression.tree
  -- the openings contain what was accepted
  pub contained : (number : ℕ) (replica : Replica) → IsAt w number replica → AreContained w replica
  -- what an opening contains, the later ones contain
  pub contents_grow : (earlier later : ℕ) → earlier ≤ later
      → (added : List Id) × (contents_of w.replicas w.records later ≡ contents_of w.replicas w.records earlier ++ added)
  -- a call was aborted only where its result breaks the invariant
  pub aborts_have_causes : (number : ℕ) (replica : Replica) (place : ℕ) (epoch : Record) (point : Tree)
      → IsAt w number replica → slice_get replica.replies place ≡ Some (Broken epoch point) → IsCause replica place epoch point
  -- or where its result on the merge of what all replicas had does
  pub refusals_have_causes : (number : ℕ) (replica : Replica) (place : ℕ) (point : Tree) (parts : List Contribution)
      → IsAt w number replica → slice_get replica.replies place ≡ Some (Refused point parts) → IsRefusal w replica place point parts
  -- a call opened a record only where it was not inside
  pub moves_have_causes : (number : ℕ) (replica : Replica) (place : ℕ) (epoch : Record) (point : Tree) (id : Id)
      → IsAt w number replica → slice_get replica.replies place ≡ Some (Moved epoch point id)
      → (call : Call) × (slice_get replica.calls place ≡ Some call) × IsMoved replica place call epoch point id
  -- the replies answer the calls in order
  pub replies_answer_calls : (number : ℕ) (replica : Replica) → IsAt w number replica → AreAnswered replica

-- ---- what the steps keep beside

-- the change that opened this record is on, and its coordinator is still frozen: its call has no reply yet
pub record IsDue (w : World) (epoch : Record) : Type 0 where
  pub coordinator : ℕ
  pub frozen : List Bool
  pub course_is : w.course ≡ Decided coordinator (Opened epoch) frozen
  pub waits : entry frozen coordinator ≡ true

-- the record was opened from the one before it by a call, which has the reply that it did, or will have it when the coordinator is thawed
pub record IsOpened (w : World) (before after : Record) : Type 0 where
  pub by : By
  pub opening : IsOpening w.replicas before after by
  pub answered : IsReplied w.replicas after by ⊎ IsDue w after

-- a coordinator that is still frozen wants a change
abbrev pub StillWants : World → ℕ → List Bool → Type 0
StillWants w coordinator frozen =
    (replica : Replica) → IsAt w coordinator replica → entry frozen coordinator ≡ true → (point : Tree) × (replica.wanted ≡ Some point)

-- a change that opened a record
pub record HasOpened (w : World) (coordinator : ℕ) (epoch : Record) (frozen : List Bool) : Type 0 where
  -- the record is the last one
  pub listed : IsListed w epoch
  pub last : epoch.number + 1 ≡ length w.records
  pub wants : StillWants w coordinator frozen
  -- as long as the coordinator is frozen, the record names its next call
  pub names : (replica : Replica) → IsAt w coordinator replica → entry frozen coordinator ≡ true → epoch.by ≡ Some (next_by replica)

-- a change that was refused
pub record HasBroken (w : World) (coordinator : ℕ) (parts : List Contribution) (frozen : List Bool) : Type 0 where
  pub wants : StillWants w coordinator frozen
  pub are_parts : AreParts w.replicas parts
  -- the parts are of the last record, each at the place of its replica's number, and made
  pub epoch : Record
  pub listed : IsListed w epoch
  pub last : epoch.number + 1 ≡ length w.records
  pub of_one : (place : ℕ) (part : Contribution) → slice_get parts place ≡ Some part → part.epoch ≡ epoch
  pub seats : (place : ℕ) (part : Contribution) → slice_get parts place ≡ Some part → part.replica ≡ place
  pub made : (place : ℕ) (part : Contribution) → slice_get parts place ≡ Some part → IsMade part.epoch part.state part.expression.tree
  -- as long as the coordinator is frozen, its part is what it has, and its next call's result on the merge of the parts breaks the invariant
  pub own : (replica : Replica) → IsAt w coordinator replica → entry frozen coordinator ≡ true → slice_get parts coordinator ≡ Some (contributed replica)
  pub breaks : (replica : Replica) (call : Call) → IsAt w coordinator replica → entry frozen coordinator ≡ true → next_call replica ≡ Some call
      → BreaksOn replica.epoch parts call

-- what is kept of a change that was decided
abbrev pub HasDecided : World → ℕ → Ruling → List Bool → Type 0
HasDecided w coordinator (Opened epoch) frozen = HasOpened w coordinator epoch frozen
HasDecided w coordinator (ruling.Broken parts) frozen = HasBroken w coordinator parts frozen
HasDecided w coordinator Nothing frozen = Unit {0}

-- while a change is on, there is an entry for each replica, and the coordinator is one of them
abbrev pub FollowsCourse : World → Course → Type 0
FollowsCourse w Idle = Unit {0}
FollowsCourse w (Freezing coordinator frozen) = (length frozen ≡ length w.replicas) × (coordinator < length w.replicas)
FollowsCourse w (Decided coordinator ruling frozen) = (length frozen ≡ length w.replicas) × (coordinator < length w.replicas) × HasDecided w coordinator ruling frozen

-- what the steps keep beside
pub record KeepsFacts (w : World) : Type 0 where
  -- each replica stands at the place of its number
  pub seated : (number : ℕ) (replica : Replica) → IsAt w number replica → replica.number ≡ number
  -- and keeps what a replica keeps by itself
  pub settled : (number : ℕ) (replica : Replica) → IsAt w number replica → IsSettled replica
  -- a frozen replica that has not adopted the record that was opened has the last but one, every other one has the last
  pub at_last : (number : ℕ) (replica : Replica) → IsAt w number replica → lags w.course number ≡ false → replica.epoch.number + 1 ≡ length w.records
  pub at_last_but_one : (number : ℕ) (replica : Replica) → IsAt w number replica → lags w.course number ≡ true → replica.epoch.number + 2 ≡ length w.records
  -- each record was opened from the one before it
  pub openings : (place : ℕ) (before after : Record) → slice_get w.records place ≡ Some before → slice_get w.records (place + 1) ≡ Some after → IsOpened w before after
  -- each opening is in its record's segment
  pub openings_fit : (place : ℕ) (epoch : Record) → slice_get w.records place ≡ Some epoch → IsInSegment epoch.plan epoch.segment epoch.opening
  -- all records are of the first one's plan
  pub of_one_plan : (place : ℕ) (first epoch : Record) → slice_get w.records 0 ≡ Some first → slice_get w.records place ≡ Some epoch → epoch.plan ≡ first.plan
  -- what is kept of the change that is on
  pub follows : FollowsCourse w w.course
  -- a packet's record is a listed one
  pub packets_listed : (packet : ℕ) (message : Message) → IsSent w packet message → IsListed w message.epoch
  -- its expression is reachable from that record's opening within its segment, and its state is the value
  pub packets_reachable : (packet : ℕ) (message : Message) → IsSent w packet message → IsMade message.epoch message.state message.expression.tree
  -- where a replica wants a change, it was at that point, and its next call was not inside there
  pub wanted_points : (number : ℕ) (replica : Replica) (point : Tree) → IsAt w number replica → replica.wanted ≡ Some point → IsWanted replica point
  -- the ids of the calls that a replica accepted are its own, and count up from 0
  pub ids_count_up : (number : ℕ) (replica : Replica) → IsAt w number replica → AreCounted number 0 (accepted_ids replica.replies)
