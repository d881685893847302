-- What all checks find together is that the outcome is legal.
use Rattle.std.proofs.Common.{◌≡◌, ◌+◌, ℕ, zero, suc, List, [], ◌∷◌, length, map, refl, sym, ◌∙◌, subst, ⊎_elim, arith}
use Rattle.std.specs.Prelude.{Some, slice_get, Contains}
use Rattle.std.proofs.lemmas.List.{length-map}
use Rattle.std.proofs.lemmas.Option.{same_Some, slice_get_within}
use Rattle.std.proofs.lemmas.List.Elements.{Contains-append_cases}
use Rattle.lucy_plan.specs.declared.parts.Call.{Call}
use Rattle.lucy_plan.specs.declared.parts.PlanParts.{PlanParts}
use Rattle.lucy_epochs.specs.declared.causes.By.{By}
use Rattle.lucy_epochs.specs.Records.{Record, first_record}
use Rattle.lucy_replica.specs.Replicas.{Answer, Stay, Replica, present, stays}
use Rattle.lucy_replica.specs.Openings.{IsOpening, IsReplied}
use Rattle.lucy_replica.specs.Facts.{IsRight, IsStay, IsSettled}
use Rattle.lucy_replica.specs.Legal.{records_of}
use Rattle.lucy_audit.specs.Differences.{Left, IsAt, HasRecord, IsAgreed}
use Rattle.lucy_audit.specs.Checks.{IsBegun, IsListed, IsFine, AreFine, IsOpened}
use Rattle.lucy_audit.proofs.Places.{one_at, to_map, exists_at, place_of, same_lists}

-- ---- what a replica keeps

-- what a replica has of a record is one of its closings, or what it has of the present one
pub stay_is : (replica : Replica) (stay : Stay) → IsSettled replica → Contains (stays replica) stay → IsStay replica stay
stay_is replica stay settled h =
    ⊎_elim
    (λ c. let place = place_of replica.closings stay c in settled.closed place.0 stay place.1)
    (λ c. let last = place_of (present replica ∷ []) stay c in only replica stay settled last.0 last.1)
    (Contains-append_cases replica.closings (present replica ∷ []) stay h)
  where
    only : (replica : Replica) (stay : Stay) → IsSettled replica → (place : ℕ) → slice_get (present replica ∷ []) place ≡ Some stay → IsStay replica stay
    only replica stay settled zero is = subst (IsStay replica) (same_Some (present replica) stay is) settled.open_stay
    only replica stay settled (suc place) is = cc

-- ---- the records of all

abbrev records_among : PlanParts → List Replica → List Record
records_among plan [] = first_record plan ∷ []
records_among plan (first ∷ replicas) = records_of first

first_among : (plan : PlanParts) (replicas : List Replica) → ((first : Replica) → slice_get replicas 0 ≡ Some first → slice_get (records_of first) 0 ≡ Some (first_record plan))
    → slice_get (records_among plan replicas) 0 ≡ Some (first_record plan)
first_among plan [] begun = refl
first_among plan (first ∷ replicas) begun = begun first refl

same_among : (plan : PlanParts) (replicas : List Replica)
    → ((place : ℕ) (replica first : Replica) → slice_get replicas place ≡ Some replica → slice_get replicas 0 ≡ Some first → records_of replica ≡ records_of first)
    → (place : ℕ) (replica : Replica) → slice_get replicas place ≡ Some replica → records_of replica ≡ records_among plan replicas
same_among plan [] same place replica at = cc
same_among plan (first ∷ replicas) same place replica at = same place replica first at refl

-- how each later one was opened
abbrev AreOpened : List Replica → List Record → Type 0
AreOpened replicas records =
    (place : ℕ) (before after : Record) → slice_get records place ≡ Some before → slice_get records (place + 1) ≡ Some after
    → (by : By) × IsOpening replicas before after by × IsReplied replicas after by

none_later : (plan : PlanParts) (place : ℕ) (after : Record) → slice_get (first_record plan ∷ []) (place + 1) ≡ Some after → ⊥
none_later plan place after h = let within = slice_get_within (first_record plan ∷ []) (place + 1) after h in omega (arith, within)

opened_among : (plan : PlanParts) (replicas : List Replica) → ((first : Replica) → slice_get replicas 0 ≡ Some first → AreOpened replicas (records_of first))
    → AreOpened replicas (records_among plan replicas)
opened_among plan [] opened = λ place before after before_is after_is. absurd (none_later plan place after after_is)
opened_among plan (first ∷ replicas) opened = opened first refl

-- ---- the calls of all

-- where each replica has the calls of the work's list, all have the work's
calls_are : (left : Left) → length left.replicas ≡ length left.work → ((place : ℕ) (replica : Replica) → IsAt left place replica → slice_get left.work place ≡ Some replica.calls)
    → map (λ replica. replica.calls) left.replicas ≡ left.work
calls_are left many each =
    let calls : List (List Call) = map (λ (r : Replica). r.calls) left.replicas in
    let long : length calls ≡ length left.replicas = length-map left.replicas (λ (r : Replica). r.calls) in
    same_lists calls left.work (long ∙ many)
    (λ place below.
    let found = exists_at left.replicas place (omega (arith, below, long)) in
    to_map (λ (r : Replica). r.calls) left.replicas place found.0 found.1 ∙ sym (each place found.0 found.1))

-- each call has a reply, for which it is right
right_at : (replica : Replica) (place : ℕ) (call : Call) → IsSettled replica → length replica.replies ≡ length replica.calls → slice_get replica.calls place ≡ Some call
    → (answer : Answer) × (slice_get replica.replies place ≡ Some answer) × IsRight replica place call answer
right_at replica place call settled many at =
    let below = slice_get_within replica.calls place call at in
    let answer = exists_at replica.replies place (omega (arith, below, many)) in
    let right = settled.answered place answer.0 answer.1 in
    let same : right.0 ≡ call = one_at replica.calls place right.0 call right.1 at in
    (answer.0, answer.1, subst (λ (c : Call). IsRight replica place c answer.0) same right.2)

-- ---- all together
pub agreed : (left : Left) → length left.replicas ≡ length left.work → IsBegun left → IsListed left → AreFine left → ((number : ℕ) → IsOpened left number) → IsAgreed left
agreed left many begun listed all opened =
    let fine : (place : ℕ) (replica : Replica) → IsAt left place replica → IsFine left place = λ place replica at. all.fine place (slice_get_within left.replicas place replica at) in
    let same : (place : ℕ) (replica first : Replica) → IsAt left place replica → IsAt left 0 first → records_of replica ≡ records_of first =
    λ place replica first at at_first. (fine place replica at).records replica first at at_first in
    record {
      legal = record {
        records = records_among left.plan left.replicas;
        same = same_among left.plan left.replicas same;
        first = first_among left.plan left.replicas begun;
        opened = opened_among left.plan left.replicas (λ first at place before after before_is after_is. opened place first before after at before_is after_is);
        made = λ place replica stay at has. (stay_is replica stay (all.settled place replica at) has).made;
        numbers = λ place replica at. (fine place replica at).seated replica at;
        calls = calls_are left many (λ place replica at. (fine place replica at).calls replica at);
        all_answered = λ place replica at. (fine place replica at).answered replica at;
        done = λ place replica stay at has. (stay_is replica stay (all.settled place replica at) has).done;
        right = λ number replica place call at call_at. right_at replica place call (all.settled number replica at) ((fine number replica at).answered replica at) call_at;
        parts_many = λ number replica place point parts at reply. ((fine number replica at).counted.replies_counted place replica point parts at reply).0;
        accepted = λ number replica stay at has.
            let place = place_of (stays replica) stay has in (fine number replica at).counted.stays_counted place.0 replica stay at place.1;
        parts_accepted = λ number replica place point parts seat part at reply part_at.
            ((fine number replica at).counted.replies_counted place replica point parts at reply).1 seat part part_at;
      };
      listed = λ at replica number ours theirs replica_at has in_table.
          let first = exists_at left.replicas 0 (let below = slice_get_within left.replicas at replica replica_at in omega (arith, below)) in
          let there : HasRecord first.0 number ours = subst (λ (records : List Record). slice_get records number ≡ Some ours) (same at replica first.0 replica_at first.1) has in
          listed number first.0 ours theirs first.1 there in_table;
    }
