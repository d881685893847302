-- What a submit answers.
use Rattle.std.proofs.Common.{◌≡◌, ℕ, Bool, false, if◌then◌else◌, refl, sym, ap, ◌∙◌}
use Rattle.std.specs.Prelude.{Option, slice_get}
use Rattle.lucy_expr.specs.declared.ids.Id.{Id}
use Rattle.lucy_calls.specs.declared.steps.Step.TheVariants.{Submit}
use Rattle.lucy_replica.specs.declared.answers.Submitted.{Submitted}
use Rattle.lucy_replica.specs.declared.answers.Submitted.TheVariants as submit
use Rattle.lucy_replica.specs.Replicas.{Replica}
use Rattle.lucy_replica.specs.Submitting.{submitted, next_id}
use Rattle.lucy_replica.specs.Laws as replica
use Rattle.lucy_replica.specs.declared.events.Event.{Event}
use Rattle.lucy_replica.specs.declared.events.Event.TheVariants.{Done, Broken, Held}
use Rattle.lucy_core.specs.Worlds.{World, is_frozen, IsAt}
use Rattle.lucy_core.specs.Steps.{submit_event, submit_row, step_of}
use Rattle.lucy_core.specs.Laws.{DoneExactly, BrokenExactly}

done_is_done : (answer : Submitted) (id : Id) → submit_event answer ≡ Done id → answer ≡ submit.Done id
done_is_done (submit.Done other) id h = let same : other ≡ id = cc in ap (λ (i : Id). submit.Done i) same
done_is_done submit.Broken id h = cc
done_is_done submit.Wants id h = cc
done_is_done submit.Ended id h = cc

broken_is_broken : (answer : Submitted) → submit_event answer ≡ Broken → answer ≡ submit.Broken
broken_is_broken (submit.Done id) h = cc
broken_is_broken submit.Broken h = refl
broken_is_broken submit.Wants h = cc
broken_is_broken submit.Ended h = cc

-- the event of a submit is that of what its replica answers
event_is : (w : World) (number : ℕ) (replica : Replica) → IsAt w number replica → is_frozen w.course number ≡ false → (step_of w (Submit number)).0 ≡ submit_event (submitted replica).0
event_is w number replica at free =
    ap (λ (frozen : Bool). let a : Event × World = if frozen then (Held, w) else submit_row w number (slice_get w.replicas number) in a.0) free
    ∙ ap (λ (r : Option Replica). (submit_row w number r).0) at

pub submit_done : replica.DoneExactly → DoneExactly
submit_done exactly w number replica call at free next =
    let event = event_is w number replica at free in
    let both = exactly replica call next in
    (λ h. both.0 (done_is_done (submitted replica).0 (next_id replica) (sym event ∙ h)), λ h. event ∙ ap submit_event (both.1 h))

pub submit_broken : replica.BrokenExactly → BrokenExactly
submit_broken exactly w number replica call at free next =
    let event = event_is w number replica at free in
    let both = exactly replica call next in
    (λ h. both.0 (broken_is_broken (submitted replica).0 (sym event ∙ h)), λ h. event ∙ ap submit_event (both.1 h))
