-- Lists of steps, and what stays.
use Rattle.std.proofs.Common.{◌≡◌, ◌<◌, ◌+◌, ◌++◌, ◌==◌, ℕ, Bool, List, [], ◌∷◌, map, take, get_or, length, refl, sym, ap, ◌∙◌, zero, suc}
use Rattle.std.specs.Prelude.{Option, Some, None, slice_get, slice_set}
use Rattle.std.proofs.lemmas.List.{length-map, take_more}
use Rattle.lucy_expr.specs.Trees.{Tree}
use Rattle.lucy_epochs.specs.Records.{Record}
use Rattle.lucy_epochs.specs.Rulings.{Ruling, Opened}
use Rattle.lucy_epochs.specs.Rulings as ruling
use Rattle.lucy_calls.specs.declared.steps.Step.{Step}
use Rattle.lucy_calls.specs.declared.steps.Step.TheVariants.{Submit, Send, Deliver, Begin, Freeze, OpenEpoch, Thaw}
use Rattle.lucy_replica.specs.declared.answers.Submitted.{Submitted}
use Rattle.lucy_replica.specs.declared.answers.Received.{Received}
use Rattle.lucy_replica.specs.declared.answers.Adoption.{Adoption}
use Rattle.lucy_replica.specs.Replicas.{Replica, Message}
use Rattle.lucy_replica.specs.Submitting.{submitted, published}
use Rattle.lucy_replica.specs.Receiving.{received}
use Rattle.lucy_replica.specs.Changing.{adopted}
use Rattle.lucy_replica.specs.declared.events.Event.{Event}
use Rattle.lucy_core.specs.Worlds.{World, Course, Freezing, Decided, entry, is_frozen, IsAt, IsSent}
use Rattle.lucy_core.specs.Worlds as course
use Rattle.lucy_core.specs.Steps.{submit_row, send_row, deliver_row, if_sent, begin_row, wanted_by, begin_by, freeze_by, all_frozen, decided, ruling_of, open_row, open_by, thaw_row, thaw_by, step_of, run_of, world_after}
use Rattle.lucy_core.specs.Laws.{RunsJoin, FrontsHaveFrontEvents, PacketsStay, RecordsStay, WorkStays}
use Rattle.lucy_core.proofs.Places.{map-set_same, slice_get-front}
use Rattle.lucy_core.proofs.Rows.{if_cases, submitted_cases, received_cases, moved_cases, refused_cases}

-- ---- lists of steps
pub runs_join : RunsJoin
runs_join w [] second = (refl, refl)
runs_join w (first ∷ steps) second =
    let rest = runs_join (step_of w first).1 steps second in
    (ap (λ (events : List Event). (step_of w first).0 ∷ events) rest.0, rest.1)

pub fronts_have_front_events : FrontsHaveFrontEvents
fronts_have_front_events w [] zero = refl
fronts_have_front_events w [] (suc n) = refl
fronts_have_front_events w (first ∷ steps) zero = refl
fronts_have_front_events w (first ∷ steps) (suc n) = ap (λ (events : List Event). (step_of w first).0 ∷ events) (fronts_have_front_events (step_of w first).1 steps n)

-- ---- what no replica changes of itself
abbrev pub IsItself : Replica → Replica → Type 0
IsItself before after = (after.number ≡ before.number) × (after.calls ≡ before.calls)

submitted_itself : (replica : Replica) → IsItself replica (submitted replica).1
submitted_itself replica = submitted_cases (λ (a : Submitted × Replica). IsItself replica a.1) replica (refl, refl) (refl, refl) (λ call next. (refl, refl)) (refl, refl)

received_itself : (message : Message) (replica : Replica) → IsItself replica (received message replica).1
received_itself message replica = received_cases (λ (a : Received × Replica). IsItself replica a.1) message replica (refl, refl) (refl, refl) (λ same. (refl, refl))

pub adopted_itself : (decision : Ruling) (coordinator : Bool) (replica : Replica) → IsItself replica (adopted decision coordinator replica).1
adopted_itself (Opened epoch) coordinator replica =
    let P : Adoption × Replica → Type 0 = λ a. IsItself replica a.1 in
    if_cases P coordinator _ _ (λ own. moved_cases P replica epoch replica.wanted (refl, refl) (λ point. (refl, refl))) (λ other. (refl, refl))
adopted_itself (ruling.Broken parts) coordinator replica =
    let P : Adoption × Replica → Type 0 = λ a. IsItself replica a.1 in
    if_cases P coordinator _ _ (λ own. refused_cases P replica parts replica.wanted (refl, refl) (λ point. (refl, refl))) (λ other. (refl, refl))
adopted_itself ruling.Nothing coordinator replica = (refl, refl)

-- ---- what no step changes: the replicas' numbers and calls, the records that there were, and the packets that were sent
pub record IsAfter (w v : World) : Type 0 where
  pub numbers : map (λ (replica : Replica). replica.number) v.replicas ≡ map (λ (replica : Replica). replica.number) w.replicas
  pub calls : map (λ (replica : Replica). replica.calls) v.replicas ≡ map (λ (replica : Replica). replica.calls) w.replicas
  pub records : (place : ℕ) (epoch : Record) → slice_get w.records place ≡ Some epoch → slice_get v.records place ≡ Some epoch
  pub packets : (packet : ℕ) (message : Message) → IsSent w packet message → IsSent v packet message

-- the same replicas and packets, and the same records or more
more_after : (w v : World) → v.replicas ≡ w.replicas → v.packets ≡ w.packets
    → ((place : ℕ) (epoch : Record) → slice_get w.records place ≡ Some epoch → slice_get v.records place ≡ Some epoch) → IsAfter w v
more_after w v replicas packets records = record {
  numbers = ap (map (λ (replica : Replica). replica.number)) replicas;
  calls = ap (map (λ (replica : Replica). replica.calls)) replicas;
  records = records;
  packets = λ packet message h. ap (λ (sent : List Message). slice_get sent packet) packets ∙ h;
}

same_after : (w : World) → IsAfter w w
same_after w = more_after w w refl refl (λ place epoch h. h)

set_after : (w v : World) (number : ℕ) (before after : Replica) → IsAt w number before → IsItself before after
    → v.replicas ≡ slice_set w.replicas number after → v.records ≡ w.records → v.packets ≡ w.packets → IsAfter w v
set_after w v number before after at itself replicas records packets = record {
  numbers = ap (map (λ (replica : Replica). replica.number)) replicas ∙ map-set_same (λ (replica : Replica). replica.number) w.replicas number before after at itself.0;
  calls = ap (map (λ (replica : Replica). replica.calls)) replicas ∙ map-set_same (λ (replica : Replica). replica.calls) w.replicas number before after at itself.1;
  records = λ place epoch h. ap (λ (rs : List Record). slice_get rs place) records ∙ h;
  packets = λ packet message h. ap (λ (sent : List Message). slice_get sent packet) packets ∙ h;
}

abbrev After : World → Event × World → Type 0
After w answer = IsAfter w answer.1

submit_after : (w : World) (number : ℕ) (replica : Option Replica) → slice_get w.replicas number ≡ replica → After w (submit_row w number replica)
submit_after w number None at = same_after w
submit_after w number (Some replica) at = set_after w (submit_row w number (Some replica)).1 number replica (submitted replica).1 at (submitted_itself replica) refl refl refl

send_after : (w : World) (replica : Option Replica) → After w (send_row w replica)
send_after w None = same_after w
send_after w (Some replica) = record {
  numbers = refl;
  calls = refl;
  records = λ place epoch h. h;
  packets = λ packet message h. slice_get-front w.packets (published replica ∷ []) packet message h;
}

deliver_after : (w : World) (to : ℕ) (message : Message) (replica : Option Replica) → slice_get w.replicas to ≡ replica → After w (deliver_row w to replica message)
deliver_after w to message None at = same_after w
deliver_after w to message (Some replica) at = set_after w (deliver_row w to (Some replica) message).1 to replica (received message replica).1 at (received_itself message replica) refl refl refl

sent_after : (w : World) (to : ℕ) (message : Option Message) → After w (if_sent w to message)
sent_after w to None = same_after w
sent_after w to (Some message) = if_cases (After w) (is_frozen w.course to) _ _ (λ held. same_after w) (λ free. deliver_after w to message (slice_get w.replicas to) refl)

begun_after : (w : World) (number : ℕ) (wanted : Option Tree) → After w (begin_row w number wanted)
begun_after w number None = same_after w
begun_after w number (Some point) = more_after w (begin_row w number (Some point)).1 refl refl (λ place epoch h. h)

begin_after : (w : World) (number : ℕ) (how : Course) → After w (begin_by w number how)
begin_after w number course.Idle = begun_after w number (wanted_by (slice_get w.replicas number))
begin_after w number (Freezing c frozen) = same_after w
begin_after w number (Decided c decision frozen) = same_after w

freeze_after : (w : World) (number : ℕ) (how : Course) → After w (freeze_by w number how)
freeze_after w number course.Idle = same_after w
freeze_after w number (Freezing c frozen) =
    if_cases (After w) (entry frozen number) _ _ (λ held. same_after w) (λ free. more_after w _ refl refl (λ place epoch h. h))
freeze_after w number (Decided c decision frozen) = same_after w

decided_after : (w : World) (c : ℕ) (frozen : List Bool) (decision : Ruling) → After w (decided w c frozen decision)
decided_after w c frozen (Opened epoch) = more_after w (decided w c frozen (Opened epoch)).1 refl refl (λ place other h. slice_get-front w.records (epoch ∷ []) place other h)
decided_after w c frozen (ruling.Broken parts) = more_after w (decided w c frozen (ruling.Broken parts)).1 refl refl (λ place epoch h. h)
decided_after w c frozen ruling.Nothing = more_after w (decided w c frozen ruling.Nothing).1 refl refl (λ place epoch h. h)

opened_after : (w : World) (c : ℕ) (frozen : List Bool) (replica : Option Replica) → After w (open_row w c frozen replica)
opened_after w c frozen None = same_after w
opened_after w c frozen (Some replica) = decided_after w c frozen (ruling_of w.replicas replica)

open_after : (w : World) (how : Course) → After w (open_by w how)
open_after w course.Idle = same_after w
open_after w (Freezing c frozen) = if_cases (After w) (all_frozen frozen) _ _ (λ all. opened_after w c frozen (slice_get w.replicas c)) (λ some. same_after w)
open_after w (Decided c decision frozen) = same_after w

thawed_after : (w : World) (number c : ℕ) (decision : Ruling) (frozen : List Bool) (replica : Option Replica) → slice_get w.replicas number ≡ replica
    → After w (thaw_row w number c decision frozen replica)
thawed_after w number c decision frozen None at = same_after w
thawed_after w number c decision frozen (Some replica) at =
    set_after w (thaw_row w number c decision frozen (Some replica)).1 number replica (adopted decision (number == c) replica).1 at (adopted_itself decision (number == c) replica) refl refl refl

thaw_after : (w : World) (number : ℕ) (how : Course) → After w (thaw_by w number how)
thaw_after w number course.Idle = same_after w
thaw_after w number (Freezing c frozen) = same_after w
thaw_after w number (Decided c decision frozen) =
    if_cases (After w) (entry frozen number) _ _ (λ waits. thawed_after w number c decision frozen (slice_get w.replicas number) refl) (λ free. same_after w)

pub step_after : (w : World) (step : Step) → IsAfter w (step_of w step).1
step_after w (Submit number) = if_cases (After w) (is_frozen w.course number) _ _ (λ held. same_after w) (λ free. submit_after w number (slice_get w.replicas number) refl)
step_after w (Send number) = if_cases (After w) (is_frozen w.course number) _ _ (λ held. same_after w) (λ free. send_after w (slice_get w.replicas number))
step_after w (Deliver to packet) = sent_after w to (slice_get w.packets packet)
step_after w (Begin number) = begin_after w number w.course
step_after w (Freeze number) = freeze_after w number w.course
step_after w OpenEpoch = open_after w w.course
step_after w (Thaw number) = thaw_after w number w.course

pub run_after : (w : World) (steps : List Step) → IsAfter w (world_after w steps)
run_after w [] = same_after w
run_after w (first ∷ steps) =
    let now = step_after w first in
    let rest = run_after (step_of w first).1 steps in
    record {
      numbers = rest.numbers ∙ now.numbers;
      calls = rest.calls ∙ now.calls;
      records = λ place epoch h. rest.records place epoch (now.records place epoch h);
      packets = λ packet message h. rest.packets packet message (now.packets packet message h);
    }

pub packets_stay : PacketsStay
packets_stay w steps packet message h = (run_after w steps).packets packet message h

pub records_stay : RecordsStay
records_stay w steps place epoch h = (run_after w steps).records place epoch h

pub work_stays : WorkStays
work_stays w steps = let after = run_after w steps in (after.numbers, after.calls)

-- no step changes how many replicas there are
pub step_keeps_count : (w : World) (step : Step) → length (step_of w step).1.replicas ≡ length w.replicas
step_keeps_count w step =
    sym (length-map (step_of w step).1.replicas (λ (replica : Replica). replica.number)) ∙ ap length (step_after w step).numbers ∙ length-map w.replicas (λ (replica : Replica). replica.number)

-- one step more of a list
pub run_more : (w v after : World) (steps : List Step) (i : ℕ) (d : Step) (events : List Event) (event : Event)
    → i < length steps → run_of w (take i steps) ≡ (events, v) → step_of v (get_or steps i d) ≡ (event, after)
    → run_of w (take (i + 1) steps) ≡ (events ++ event ∷ [], after)
run_more w v after steps i d events event within before did =
    let step : Step = get_or steps i d in
    let joined = runs_join w (take i steps) (step ∷ []) in
    ap (run_of w) (take_more steps i d within)
    ∙ (λ k. (joined.0 k, joined.1 k))
    ∙ ap (λ (answer : List Event × World). (answer.0 ++ (step_of answer.1 step).0 ∷ [], (step_of answer.1 step).1)) before
    ∙ ap (λ (answer : Event × World). (events ++ answer.0 ∷ [], answer.1)) did
