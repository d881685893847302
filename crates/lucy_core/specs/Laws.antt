-- What is known of every list of steps.
use Rattle.std.specs.Prelude.{◌≡◌, ◌≢◌, ◌↔◌, ℕ, true, false, List, Bool, ◌++◌, length, Some, take, map, slice_get}
use Rattle.lucy_plan.specs.Soundness.{IsSound}
use Rattle.lucy_plan.specs.declared.parts.Call.{Call}
use Rattle.lucy_plan.specs.declared.parts.PlanParts.{PlanParts}
use Rattle.lucy_epochs.specs.Records.{Record, first_record}
use Rattle.lucy_epochs.specs.Rulings as ruling
use Rattle.lucy_calls.specs.declared.steps.Step.{Step}
use Rattle.lucy_calls.specs.declared.steps.Step.TheVariants.{Submit, Freeze, Thaw}
use Rattle.lucy_replica.specs.Replicas.{Replica, Message}
use Rattle.lucy_replica.specs.Submitting.{next_call, next_id, IsInside}
use Rattle.lucy_replica.specs.Laws.{IsKept}
use Rattle.lucy_replica.specs.Legal.{IsLegal}
use Rattle.lucy_replica.specs.declared.events.Event.TheVariants.{Done, Broken, Held, Frozen, Moved}
use Rattle.lucy_core.specs.Worlds.{World, Idle, Freezing, Decided, entry, is_frozen, IsAt, IsSent, opening_world, IsWorkOf}
use Rattle.lucy_core.specs.Steps.{step_of, events_of, world_after}
use Rattle.lucy_core.specs.Safety.{IsSafe, KeepsFacts}
use Rattle.lucy_core.specs.Alone.{alone_world}

-- ---- safety

-- the opening world of a sound plan is safe
abbrev pub OpeningIsSafe : Type 0
OpeningIsSafe = (plan : PlanParts) (work : List (List Call)) → IsSound plan → IsWorkOf plan work → IsSafe (opening_world plan work) × KeepsFacts (opening_world plan work)

-- a step keeps a world safe
abbrev pub StepsKeepSafe : Type 0
StepsKeepSafe = (w : World) (step : Step) → IsSafe w → KeepsFacts w → IsSafe (step_of w step).1 × KeepsFacts (step_of w step).1

-- a list of steps keeps a world safe, after each of its fronts
abbrev pub RunsKeepSafe : Type 0
RunsKeepSafe = (w : World) (steps : List Step) (n : ℕ) → IsSafe w → KeepsFacts w → IsSafe (world_after w (take n steps)) × KeepsFacts (world_after w (take n steps))

-- under a sound plan the world is safe after each front of every list of steps
abbrev pub EveryRunIsSafe : Type 0
EveryRunIsSafe =
    (plan : PlanParts) (work : List (List Call)) (steps : List Step) (n : ℕ) → IsSound plan → IsWorkOf plan work → IsSafe (world_after (opening_world plan work) (take n steps))

-- ---- legal outcomes

-- a safe world that keeps its facts, in which no change is on and each call has a reply, is a legal outcome of its work under the plan of its first record
abbrev pub SafeOutcomeIsLegal : Type 0
SafeOutcomeIsLegal =
    (w : World) (plan : PlanParts) (work : List (List Call)) → IsSafe w → KeepsFacts w → w.course ≡ Idle → slice_get w.records 0 ≡ Some (first_record plan)
    → map (λ replica. replica.calls) w.replicas ≡ work → ((number : ℕ) (replica : Replica) → IsAt w number replica → length replica.replies ≡ length replica.calls)
    → IsLegal plan work w.replicas

-- so is what all replicas show after a list of steps under a sound plan, where no change is on and each call has a reply
abbrev pub RunOutcomeIsLegal : Type 0
RunOutcomeIsLegal =
    (plan : PlanParts) (work : List (List Call)) (steps : List Step) → IsSound plan → IsWorkOf plan work → (world_after (opening_world plan work) steps).course ≡ Idle
    → ((number : ℕ) (replica : Replica) → IsAt (world_after (opening_world plan work) steps) number replica → length replica.replies ≡ length replica.calls)
    → IsLegal plan work (world_after (opening_world plan work) steps).replicas

-- so is what one thread alone comes to
abbrev pub AloneIsLegal : Type 0
AloneIsLegal = (plan : PlanParts) (work : List (List Call)) → IsSound plan → IsWorkOf plan work → IsLegal plan work (alone_world plan work).replicas

-- ---- lists of steps

-- one list of steps after another is one list
abbrev pub RunsJoin : Type 0
RunsJoin =
    (w : World) (first second : List Step)
    → (events_of w (first ++ second) ≡ events_of w first ++ events_of (world_after w first) second) × (world_after w (first ++ second) ≡ world_after (world_after w first) second)

-- the events of a front are the front of the events
abbrev pub FrontsHaveFrontEvents : Type 0
FrontsHaveFrontEvents = (w : World) (steps : List Step) (n : ℕ) → events_of w (take n steps) ≡ take n (events_of w steps)

-- ---- what a submit answers

-- a frozen replica's submit is held, and changes nothing
abbrev pub FrozenIsHeld : Type 0
FrozenIsHeld = (w : World) (number : ℕ) → is_frozen w.course number ≡ true → step_of w (Submit number) ≡ (Held, w)

-- where the replica is not frozen, a submit is answered `Done` exactly where the result of its next call satisfies the invariant and the
-- call is inside
abbrev pub DoneExactly : Type 0
DoneExactly =
    (w : World) (number : ℕ) (replica : Replica) (call : Call) → IsAt w number replica → is_frozen w.course number ≡ false → next_call replica ≡ Some call
    → ((step_of w (Submit number)).0 ≡ Done (next_id replica)) ↔ (IsKept replica call × IsInside replica.epoch replica.expression.tree call)

-- where the replica is not frozen, a submit is answered `Broken` exactly where the result of its next call breaks the invariant
abbrev pub BrokenExactly : Type 0
BrokenExactly =
    (w : World) (number : ℕ) (replica : Replica) (call : Call) → IsAt w number replica → is_frozen w.course number ≡ false → next_call replica ≡ Some call
    → ((step_of w (Submit number)).0 ≡ Broken) ↔ (¬ (IsKept replica call))

-- ---- what the steps of a change answer

-- a freeze is answered `Frozen` exactly where replicas are being frozen and this one is not frozen yet
abbrev pub FrozenExactly : Type 0
FrozenExactly =
    (w : World) (number : ℕ)
    → ((step_of w (Freeze number)).0 ≡ Frozen) ↔ ((coordinator : ℕ) × (frozen : List Bool) × (w.course ≡ Freezing coordinator frozen) × (entry frozen number ≡ false))

-- in a world that keeps its facts, a thaw is answered `Moved` exactly where a record was opened and the replica is its coordinator, still frozen
abbrev pub MovedExactly : Type 0
MovedExactly =
    (w : World) (number : ℕ) (replica : Replica) → KeepsFacts w → IsAt w number replica
    → ((step_of w (Thaw number)).0 ≡ Moved (next_id replica))
    ↔ ((epoch : Record) × (frozen : List Bool) × (w.course ≡ Decided number (ruling.Opened epoch) frozen) × (entry frozen number ≡ true))

-- ---- what a step reads, and what stays

-- a submit's event and its replica after it are the same in all worlds in which the replica is the same, and frozen in both or in neither
abbrev pub SubmitReadsItsReplica : Type 0
SubmitReadsItsReplica =
    (w v : World) (number : ℕ) → slice_get w.replicas number ≡ slice_get v.replicas number → is_frozen w.course number ≡ is_frozen v.course number
    → ((step_of w (Submit number)).0 ≡ (step_of v (Submit number)).0) × (slice_get (step_of w (Submit number)).1.replicas number ≡ slice_get (step_of v (Submit number)).1.replicas number)

-- a submit changes no other replica, no packet, no record and no course
abbrev pub SubmitChangesItsReplica : Type 0
SubmitChangesItsReplica =
    (w : World) (number other : ℕ) → other ≢ number
    → (slice_get (step_of w (Submit number)).1.replicas other ≡ slice_get w.replicas other)
    × ((step_of w (Submit number)).1.packets ≡ w.packets) × ((step_of w (Submit number)).1.records ≡ w.records) × ((step_of w (Submit number)).1.course ≡ w.course)

-- a thaw changes no other replica
abbrev pub ThawChangesItsReplica : Type 0
ThawChangesItsReplica = (w : World) (number other : ℕ) → other ≢ number → slice_get (step_of w (Thaw number)).1.replicas other ≡ slice_get w.replicas other

-- a packet that was sent stays, whatever happens: so it may be delivered any number of times, or never
abbrev pub PacketsStay : Type 0
PacketsStay = (w : World) (steps : List Step) (packet : ℕ) (message : Message) → IsSent w packet message → IsSent (world_after w steps) packet message

-- a record that was opened stays: the list of records only grows
abbrev pub RecordsStay : Type 0
RecordsStay = (w : World) (steps : List Step) (place : ℕ) (epoch : Record) → slice_get w.records place ≡ Some epoch → slice_get (world_after w steps).records place ≡ Some epoch

-- no list of steps changes a replica's number or its calls
abbrev pub WorkStays : Type 0
WorkStays =
    (w : World) (steps : List Step)
    → (map (λ replica. replica.number) (world_after w steps).replicas ≡ map (λ replica. replica.number) w.replicas)
    × (map (λ replica. replica.calls) (world_after w steps).replicas ≡ map (λ replica. replica.calls) w.replicas)
