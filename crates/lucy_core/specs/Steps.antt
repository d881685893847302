-- What happens in a world: steps, and lists of them.
use Rattle.std.specs.Prelude.{ℕ, ◌==◌, Bool, true, false, if◌then◌else◌, List, [], ◌∷◌, ◌++◌, length, map, Option, Some, None, slice_get, slice_set}
use Rattle.std.specs.List.{list_all, list_any}
use Rattle.lucy_expr.specs.Trees.{Tree}
use Rattle.lucy_epochs.specs.Records.{Record}
use Rattle.lucy_epochs.specs.Rulings.{Ruling, rule}
use Rattle.lucy_epochs.specs.Rulings as ruling
use Rattle.lucy_calls.specs.declared.steps.Step.{Step}
use Rattle.lucy_calls.specs.declared.steps.Step.TheVariants as step
use Rattle.lucy_replica.specs.Replicas.{Replica, Message}
use Rattle.lucy_replica.specs.Submitting.{submitted, published}
use Rattle.lucy_replica.specs.Receiving.{received}
use Rattle.lucy_replica.specs.Changing.{contributed, wish_of, adopted}
use Rattle.lucy_replica.specs.declared.answers.Submitted.{Submitted}
use Rattle.lucy_replica.specs.declared.answers.Submitted.TheVariants as submit
use Rattle.lucy_replica.specs.declared.answers.Received.{Received}
use Rattle.lucy_replica.specs.declared.answers.Received.TheVariants as receive
use Rattle.lucy_replica.specs.declared.answers.Adoption.{Adoption}
use Rattle.lucy_replica.specs.declared.answers.Adoption.TheVariants as adopt
use Rattle.lucy_replica.specs.declared.events.Stage.TheVariants as stage
use Rattle.lucy_replica.specs.declared.events.Event.{Event}
use Rattle.lucy_replica.specs.declared.events.Event.TheVariants.{Done, Broken, Wants, Ended, Sent, Merged, Stale, Deep, NoPacket, Held, Free, Busy, Begun, Frozen, RuledBroken, RuledNothing, Moved, Refused, Kept}
use Rattle.lucy_replica.specs.declared.events.Event.TheVariants as event
use Rattle.lucy_core.specs.Worlds.{World, Course, Freezing, Decided, entry, is_frozen}
use Rattle.lucy_core.specs.Worlds as course

-- the event of what a replica answers to a submit
abbrev pub submit_event : Submitted → Event
submit_event (submit.Done id) = Done id
submit_event submit.Broken = Broken
submit_event submit.Wants = Wants
submit_event submit.Ended = Ended

-- the event of what a replica answers to a packet
abbrev pub receive_event : Received → Event
receive_event receive.Merged = Merged
receive_event receive.Stale = Stale
receive_event receive.Deep = Deep

-- the event of what a replica answers to a ruling
abbrev pub adopt_event : Adoption → Event
adopt_event (adopt.Moved id) = Moved id
adopt_event adopt.Adopted = event.Adopted
adopt_event adopt.Refused = Refused
adopt_event adopt.Kept = Kept

-- the world with another replica at a place
abbrev pub with_replica : World → ℕ → Replica → World
with_replica w number replica = record w { replicas = slice_set w.replicas number replica }

-- the world with one packet more
abbrev pub with_packet : World → Message → World
with_packet w message = record w { packets = w.packets ++ message ∷ [] }

-- the world with the change at another point
abbrev pub with_course : World → Course → World
with_course w course = record w { course = course }

-- In the rows of steps a replica is given if there is one of the number that the step names: no step is taken where there is none.

-- ---- submits, sends and deliveries
-- a replica tries its next call: it answers, and changes, as it does by itself
abbrev pub submit_row : World → ℕ → Option Replica → Event × World
submit_row w number None = (Ended, w)
submit_row w number (Some replica) = (submit_event (submitted replica).0, with_replica w number (submitted replica).1)

-- a replica sends what it has: the packet gets the next number
abbrev pub send_row : World → Option Replica → Event × World
send_row w None = (NoPacket, w)
send_row w (Some replica) = (Sent (length w.packets), with_packet w (published replica))

-- a replica gets a packet that was sent: it answers, and changes, as it does by itself, and the packet stays
abbrev pub deliver_row : World → ℕ → Option Replica → Message → Event × World
deliver_row w to None message = (NoPacket, w)
deliver_row w to (Some replica) message = (receive_event (received message replica).0, with_replica w to (received message replica).1)

-- a frozen replica does none of this
abbrev pub unless_frozen : World → ℕ → Event × World → Event × World
unless_frozen w number row = if is_frozen w.course number then (Held, w) else row

-- that a packet was not sent is told before anything else
abbrev pub if_sent : World → ℕ → Option Message → Event × World
if_sent w to None = (NoPacket, w)
if_sent w to (Some message) = unless_frozen w to (deliver_row w to (slice_get w.replicas to) message)

-- ---- a change begins, where none is on, with a replica that wants one
abbrev pub begin_row : World → ℕ → Option Tree → Event × World
begin_row w number None = (event.Nothing, w)
begin_row w number (Some point) = (Begun, with_course w (Freezing number (map (λ replica. false) w.replicas)))

abbrev pub wanted_by : Option Replica → Option Tree
wanted_by None = None
wanted_by (Some replica) = replica.wanted

abbrev pub begin_by : World → ℕ → Course → Event × World
begin_by w number course.Idle = begin_row w number (wanted_by (slice_get w.replicas number))
begin_by w number (Freezing coordinator frozen) = (Busy stage.Freezing, w)
begin_by w number (Decided coordinator ruling frozen) = (Busy stage.Decided, w)

-- ---- a replica is frozen
abbrev pub freeze_by : World → ℕ → Course → Event × World
freeze_by w number course.Idle = (event.Idle, w)
freeze_by w number (Freezing coordinator frozen) =
    if entry frozen number then (Held, w) else (Frozen, with_course w (Freezing coordinator (slice_set frozen number true)))
freeze_by w number (Decided coordinator ruling frozen) = (Busy stage.Decided, w)

-- ---- the change is decided, where all replicas are frozen
abbrev pub all_frozen : List Bool → Bool
all_frozen frozen = list_all (λ f. f) frozen

-- the event of a ruling
abbrev pub ruled_event : Ruling → Event
ruled_event (ruling.Opened epoch) = event.Opened epoch.number
ruled_event (ruling.Broken parts) = RuledBroken
ruled_event ruling.Nothing = RuledNothing

-- a record that is opened stands behind the others
abbrev pub records_with : List Record → Ruling → List Record
records_with records (ruling.Opened epoch) = records ++ epoch ∷ []
records_with records (ruling.Broken parts) = records
records_with records ruling.Nothing = records

abbrev pub decided : World → ℕ → List Bool → Ruling → Event × World
decided w coordinator frozen ruling = (ruled_event ruling, record w { records = records_with w.records ruling; course = Decided coordinator ruling frozen })

-- the ruling on all that the replicas have, and on what the coordinator wants
abbrev pub ruling_of : List Replica → Replica → Ruling
ruling_of replicas coordinator = rule coordinator.epoch (map contributed replicas) (wish_of coordinator)

abbrev pub open_row : World → ℕ → List Bool → Option Replica → Event × World
open_row w coordinator frozen None = (Busy stage.Freezing, w)
open_row w coordinator frozen (Some replica) = decided w coordinator frozen (ruling_of w.replicas replica)

abbrev pub open_by : World → Course → Event × World
open_by w course.Idle = (event.Idle, w)
open_by w (Freezing coordinator frozen) =
    if all_frozen frozen then open_row w coordinator frozen (slice_get w.replicas coordinator) else (Busy stage.Freezing, w)
open_by w (Decided coordinator ruling frozen) = (Busy stage.Decided, w)

-- ---- a replica is thawed
-- the last one that is thawed ends the change
abbrev pub still : ℕ → Ruling → List Bool → Course
still coordinator ruling frozen = if list_any (λ f. f) frozen then Decided coordinator ruling frozen else course.Idle

-- a frozen replica takes the ruling: it answers, and changes, as it does by itself, as the coordinator or not
abbrev pub thaw_row : World → ℕ → ℕ → Ruling → List Bool → Option Replica → Event × World
thaw_row w number coordinator ruling frozen None = (Free, w)
thaw_row w number coordinator ruling frozen (Some replica) = (
  adopt_event (adopted ruling (number == coordinator) replica).0,
  record w {
    replicas = slice_set w.replicas number (adopted ruling (number == coordinator) replica).1;
    course = still coordinator ruling (slice_set frozen number false);
  },
)

abbrev pub thaw_by : World → ℕ → Course → Event × World
thaw_by w number course.Idle = (event.Idle, w)
thaw_by w number (Freezing coordinator frozen) = (Busy stage.Freezing, w)
thaw_by w number (Decided coordinator ruling frozen) =
    if entry frozen number then thaw_row w number coordinator ruling frozen (slice_get w.replicas number) else (Free, w)

-- ---- what a step answers, and the world after it
abbrev pub step_of : World → Step → Event × World
step_of w (step.Submit number) = unless_frozen w number (submit_row w number (slice_get w.replicas number))
step_of w (step.Send number) = unless_frozen w number (send_row w (slice_get w.replicas number))
step_of w (step.Deliver to packet) = if_sent w to (slice_get w.packets packet)
step_of w (step.Begin number) = begin_by w number w.course
step_of w (step.Freeze number) = freeze_by w number w.course
step_of w step.OpenEpoch = open_by w w.course
step_of w (step.Thaw number) = thaw_by w number w.course

-- what a list of steps answers, in order, and the world after it
abbrev pub run_of : World → List Step → List Event × World
run_of w [] = ([], w)
run_of w (first ∷ steps) = ((step_of w first).0 ∷ (run_of (step_of w first).1 steps).0, (run_of (step_of w first).1 steps).1)

-- the events of a run
abbrev pub events_of : World → List Step → List Event
events_of w steps = (run_of w steps).0

-- the world after a run
abbrev pub world_after : World → List Step → World
world_after w steps = (run_of w steps).1
