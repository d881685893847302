-- That a world is safe and keeps its facts is what the steps keep.
use Rattle.std.proofs.Common.{◌≡◌, ◌+◌, ℕ, zero, suc, List, take, sym, ap, ◌∙◌, subst, arith}
use Rattle.std.specs.Prelude.{Some, slice_get}
use Rattle.std.proofs.lemmas.Option.{same_Some, slice_get_within}
use Rattle.lucy_expr.specs.Trees.{Tree}
use Rattle.lucy_epochs.specs.Records.{Record}
use Rattle.lucy_epochs.specs.Contributions.{Contribution}
use Rattle.lucy_epochs.specs.Laws.{NextRecordIsInSegment}
use Rattle.lucy_replica.specs.Replicas.{Done, Broken, Moved, Refused, Replica}
use Rattle.lucy_replica.specs.Submitting.{accepted_ids}
use Rattle.lucy_replica.specs.Facts.{AreCounted, IsSettled}
use Rattle.lucy_replica.specs.Laws.{SubmitKeeps, ReceiveKeeps, AdoptKeeps, SameExactly, SettledIsWhole}
use Rattle.lucy_core.specs.Laws.{StepsKeepSafe, RunsKeepSafe}
use Rattle.lucy_core.specs.Worlds.{World}
use Rattle.lucy_core.specs.Steps.{step_of, world_after}
use Rattle.lucy_core.specs.Safety.{IsCause, IsRefusal, AreParts, AreAnswered, IsSafe, KeepsFacts}
use Rattle.lucy_core.proofs.Places.{no_longer}
use Rattle.lucy_core.proofs.Kept.{IsKept}
use Rattle.lucy_core.proofs.Contents.{exists_at, stay_of, contained, contents_grow}
use Rattle.lucy_core.proofs.Stepping.{step_kept, run_kept}

-- of what is safe, the parts that the steps keep
pub kept_from : (w : World) → IsSafe w → KeepsFacts w → IsKept w
kept_from w safe facts = record {
  seated = facts.seated;
  settled = facts.settled;
  in_order = safe.records_in_order;
  at_last = facts.at_last;
  at_last_but_one = facts.at_last_but_one;
  on_spines = safe.applies_on_spines;
  sent_on_spines = safe.sent_applies_on_spines;
  openings = facts.openings;
  openings_fit = facts.openings_fit;
  follows = facts.follows;
  listed = facts.packets_listed;
  made = facts.packets_reachable;
  refusals = λ number replica place point parts at h. (safe.refusals_have_causes number replica place point parts at h).are_parts;
}

cause_of : (replica : Replica) (place : ℕ) (epoch : Record) (point : Tree) → IsSettled replica → slice_get replica.replies place ≡ Some (Broken epoch point) → IsCause replica place epoch point
cause_of replica place epoch point settled h =
    let answered = settled.answered place (Broken epoch point) h in
    record { call = answered.0; call_is = answered.1; at_point = answered.2.0; breaks = answered.2.1 }

refusal_of : (w : World) (replica : Replica) (place : ℕ) (point : Tree) (parts : List Contribution) → IsSettled replica → AreParts w.replicas parts
    → slice_get replica.replies place ≡ Some (Refused point parts) → IsRefusal w replica place point parts
refusal_of w replica place point parts settled are h =
    let answered = settled.answered place (Refused point parts) h in
    record {
      call = answered.0;
      call_is = answered.1;
      epoch = answered.2.own.epoch;
      of_one = answered.2.of_one;
      seats = answered.2.seats;
      are_parts = are;
      breaks = answered.2.breaks;
      at_point = answered.2.at_point;
      outside = answered.2.outside;
    }

answered_of : (replica : Replica) → IsSettled replica → AreAnswered replica
answered_of replica settled = record {
  few = no_longer replica.replies replica.calls (λ place answer h. let answered = settled.answered place answer h in (answered.0, answered.1));
  done_in_records = λ place epoch id h. (settled.answered place (Done epoch id) h).2;
  moved_in_records = λ place epoch point id h. (settled.answered place (Moved epoch point id) h).2.in_record;
  never_fall = settled.rising;
  done = λ stay h. (stay_of replica stay settled h).done;
}

pub safe_from : SettledIsWhole → (w : World) → IsKept w → IsSafe w
safe_from whole w kept = record {
  states_fit = λ number replica at. let fits = whole replica (kept.settled number replica at) in record { within = fits.0; whole = fits.1 };
  reachable = λ number replica stay at h. (stay_of replica stay (kept.settled number replica at) h).made;
  records_in_order = kept.in_order;
  applies_on_spines = kept.on_spines;
  sent_applies_on_spines = kept.sent_on_spines;
  contained = λ number replica at. contained w number replica at kept;
  contents_grow = contents_grow w.replicas w.records;
  aborts_have_causes = λ number replica place epoch point at h. cause_of replica place epoch point (kept.settled number replica at) h;
  refusals_have_causes = λ number replica place point parts at h.
      refusal_of w replica place point parts (kept.settled number replica at) (kept.refusals number replica place point parts at h) h;
  moves_have_causes = λ number replica place epoch point id at h. (kept.settled number replica at).answered place (Moved epoch point id) h;
  replies_answer_calls = λ number replica at. answered_of replica (kept.settled number replica at);
}

-- all records are of the first one's plan
one_plan : (w : World) (kept : IsKept w) (place : ℕ) (epoch : Record) → slice_get w.records place ≡ Some epoch → epoch.plan ≡ kept.in_order.first.plan
one_plan w kept zero epoch is = ap (λ (e : Record). e.plan) (same_Some epoch kept.in_order.first (sym is ∙ kept.in_order.first_is))
one_plan w kept (suc place) epoch is =
    let below = slice_get_within w.records (suc place) epoch is in
    let past = exists_at w.records place (omega (arith, below)) in
    let next : place + 1 ≡ suc place = omega arith in
    let opened = kept.openings place past.0 epoch past.1 (ap (slice_get w.records) next ∙ is) in
    ap (λ (e : Record). e.plan) opened.opening.after_is ∙ one_plan w kept place past.0 past.1

pub facts_from : (w : World) → IsKept w → KeepsFacts w
facts_from w kept = record {
  seated = kept.seated;
  settled = kept.settled;
  at_last = kept.at_last;
  at_last_but_one = kept.at_last_but_one;
  openings = kept.openings;
  openings_fit = kept.openings_fit;
  of_one_plan = λ place first epoch begins is. one_plan w kept place epoch is ∙ ap (λ (e : Record). e.plan) (same_Some kept.in_order.first first (sym kept.in_order.first_is ∙ begins));
  follows = kept.follows;
  packets_listed = kept.listed;
  packets_reachable = kept.made;
  wanted_points = λ number replica point at h. (kept.settled number replica at).wanting point h;
  ids_count_up = λ number replica at. subst (λ (n : ℕ). AreCounted n 0 (accepted_ids replica.replies)) (kept.seated number replica at) (kept.settled number replica at).counted;
}

pub step_safe : SubmitKeeps → ReceiveKeeps → AdoptKeeps → SameExactly → NextRecordIsInSegment → SettledIsWhole → StepsKeepSafe
step_safe submits receives adopts same fits whole w step safe facts =
    let kept = step_kept submits receives adopts same fits w step (kept_from w safe facts) in
    (safe_from whole (step_of w step).1 kept, facts_from (step_of w step).1 kept)

pub run_safe : SubmitKeeps → ReceiveKeeps → AdoptKeeps → SameExactly → NextRecordIsInSegment → SettledIsWhole → RunsKeepSafe
run_safe submits receives adopts same fits whole w steps n safe facts =
    let kept = run_kept submits receives adopts same fits w (take n steps) (kept_from w safe facts) in
    (safe_from whole (world_after w (take n steps)) kept, facts_from (world_after w (take n steps)) kept)
