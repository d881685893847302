-- Every step keeps what the steps keep.
use Rattle.std.proofs.Common.{◌≡◌, ℕ, Bool, true, false, List, [], ◌∷◌, refl}
use Rattle.std.specs.Prelude.{Option, Some, None, slice_get}
use Rattle.lucy_expr.specs.Trees.{Tree}
use Rattle.lucy_epochs.specs.Rulings.{Ruling}
use Rattle.lucy_epochs.specs.Laws.{NextRecordIsInSegment}
use Rattle.lucy_replica.specs.Replicas.{Replica, Message}
use Rattle.lucy_replica.specs.Submitting.{submitted, next_call}
use Rattle.lucy_replica.specs.Receiving.{received}
use Rattle.lucy_replica.specs.Laws.{SubmitKeeps, ReceiveKeeps, AdoptKeeps, SameExactly}
use Rattle.lucy_core.specs.Worlds.{World, Course, Freezing, Decided, entry, is_frozen}
use Rattle.lucy_core.specs.Worlds as course
use Rattle.lucy_calls.specs.declared.steps.Step.{Step}
use Rattle.lucy_calls.specs.declared.steps.Step.TheVariants.{Submit, Send, Deliver, Begin, Freeze, OpenEpoch, Thaw}
use Rattle.lucy_replica.specs.declared.events.Event.{Event}
use Rattle.lucy_core.specs.Steps.{submit_row, send_row, deliver_row, unless_frozen, if_sent, begin_row, wanted_by, begin_by, freeze_by, all_frozen, open_row, open_by, thaw_row, thaw_by, step_of, world_after}
use Rattle.lucy_core.proofs.Rows.{if_cases}
use Rattle.lucy_core.proofs.Kept.{IsKept}
use Rattle.lucy_core.proofs.Courses.{not_lagging, free_kept}
use Rattle.lucy_core.proofs.OneChange.{submitted_change, received_change, submitted_epoch, received_epoch}
use Rattle.lucy_core.proofs.Thawing.{thaw_kept}
use Rattle.lucy_core.proofs.Beginning.{sent_kept, begun_kept, frozen_kept}
use Rattle.lucy_core.proofs.Opening.{decided_kept}

abbrev Keeps : Event × World → Type 0
Keeps answer = IsKept answer.1

-- the guard
unfrozen : (w : World) (number : ℕ) (row : Event × World) → IsKept w → (is_frozen w.course number ≡ false → Keeps row) → Keeps (unless_frozen w number row)
unfrozen w number row kept then_kept = if_cases Keeps (is_frozen w.course number) _ _ (λ held. kept) then_kept

module _ (submits : SubmitKeeps) (receives : ReceiveKeeps) (adopts : AdoptKeeps) (exactly : SameExactly) (fits : NextRecordIsInSegment) where
  submit_kept : (w : World) (number : ℕ) (replica : Option Replica) → slice_get w.replicas number ≡ replica → IsKept w → is_frozen w.course number ≡ false → Keeps (submit_row w number replica)
  submit_kept w number None at kept free = kept
  submit_kept w number (Some replica) at kept free =
      free_kept w number replica (submitted replica).1 at kept (submitted_change w number replica at kept submits (not_lagging w.course number free)) free
      (submitted_epoch w number replica at kept)

  send_kept : (w : World) (number : ℕ) (replica : Option Replica) → slice_get w.replicas number ≡ replica → IsKept w → Keeps (send_row w replica)
  send_kept w number None at kept = kept
  send_kept w number (Some replica) at kept = sent_kept w number replica at kept

  deliver_kept : (w : World) (to packet : ℕ) (message : Message) (replica : Option Replica) → slice_get w.packets packet ≡ Some message → slice_get w.replicas to ≡ replica
      → IsKept w → is_frozen w.course to ≡ false → Keeps (deliver_row w to replica message)
  deliver_kept w to packet message None which at kept free = kept
  deliver_kept w to packet message (Some replica) which at kept free =
      free_kept w to replica (received message replica).1 at kept
      (received_change w to replica at kept exactly receives packet message which (not_lagging w.course to free)) free
      (received_epoch w to replica at kept message)

  sent_or_not : (w : World) (to packet : ℕ) (message : Option Message) → slice_get w.packets packet ≡ message → IsKept w → Keeps (if_sent w to message)
  sent_or_not w to packet None which kept = kept
  sent_or_not w to packet (Some message) which kept =
      unfrozen w to (deliver_row w to (slice_get w.replicas to) message) kept (deliver_kept w to packet message (slice_get w.replicas to) which refl kept)

  begin_kept : (w : World) (number : ℕ) (replica : Option Replica) → slice_get w.replicas number ≡ replica → w.course ≡ course.Idle → IsKept w → Keeps (begin_row w number (wanted_by replica))
  begin_kept w number None at idle kept = kept
  begin_kept w number (Some replica) at idle kept = by_wanted replica.wanted
    where
      by_wanted : (wanted : Option Tree) → Keeps (begin_row w number wanted)
      by_wanted None = kept
      by_wanted (Some point) = begun_kept w number replica at idle kept

  begin_by_kept : (w : World) (number : ℕ) (how : Course) → w.course ≡ how → IsKept w → Keeps (begin_by w number how)
  begin_by_kept w number course.Idle is kept = begin_kept w number (slice_get w.replicas number) refl is kept
  begin_by_kept w number (Freezing c frozen) is kept = kept
  begin_by_kept w number (Decided c decision frozen) is kept = kept

  freeze_by_kept : (w : World) (number : ℕ) (how : Course) → w.course ≡ how → IsKept w → Keeps (freeze_by w number how)
  freeze_by_kept w number course.Idle is kept = kept
  freeze_by_kept w number (Freezing c frozen) is kept = if_cases Keeps (entry frozen number) _ _ (λ held. kept) (λ free. frozen_kept w number c frozen is kept)
  freeze_by_kept w number (Decided c decision frozen) is kept = kept

  open_kept : (w : World) (c : ℕ) (frozen : List Bool) (replica : Option Replica) → slice_get w.replicas c ≡ replica → w.course ≡ Freezing c frozen → IsKept w → all_frozen frozen ≡ true
      → Keeps (open_row w c frozen replica)
  open_kept w c frozen None at is kept all = kept
  open_kept w c frozen (Some replica) at is kept all = decided_kept w c frozen replica at kept is all fits replica.wanted (next_call replica) refl refl

  open_by_kept : (w : World) (how : Course) → w.course ≡ how → IsKept w → Keeps (open_by w how)
  open_by_kept w course.Idle is kept = kept
  open_by_kept w (Freezing c frozen) is kept = if_cases Keeps (all_frozen frozen) _ _ (open_kept w c frozen (slice_get w.replicas c) refl is kept) (λ some_free. kept)
  open_by_kept w (Decided c decision frozen) is kept = kept

  thaw_row_kept : (w : World) (number c : ℕ) (decision : Ruling) (frozen : List Bool) (replica : Option Replica) → slice_get w.replicas number ≡ replica
      → w.course ≡ Decided c decision frozen → IsKept w → entry frozen number ≡ true → Keeps (thaw_row w number c decision frozen replica)
  thaw_row_kept w number c decision frozen None at is kept waits = kept
  thaw_row_kept w number c decision frozen (Some replica) at is kept waits = thaw_kept w number replica at kept c frozen waits adopts decision is

  thaw_by_kept : (w : World) (number : ℕ) (how : Course) → w.course ≡ how → IsKept w → Keeps (thaw_by w number how)
  thaw_by_kept w number course.Idle is kept = kept
  thaw_by_kept w number (Freezing c frozen) is kept = kept
  thaw_by_kept w number (Decided c decision frozen) is kept =
      if_cases Keeps (entry frozen number) _ _ (thaw_row_kept w number c decision frozen (slice_get w.replicas number) refl is kept) (λ free. kept)

  pub step_kept : (w : World) (step : Step) → IsKept w → IsKept (step_of w step).1
  step_kept w (Submit number) kept = unfrozen w number (submit_row w number (slice_get w.replicas number)) kept (submit_kept w number (slice_get w.replicas number) refl kept)
  step_kept w (Send number) kept = unfrozen w number (send_row w (slice_get w.replicas number)) kept (λ free. send_kept w number (slice_get w.replicas number) refl kept)
  step_kept w (Deliver to packet) kept = sent_or_not w to packet (slice_get w.packets packet) refl kept
  step_kept w (Begin number) kept = begin_by_kept w number w.course refl kept
  step_kept w (Freeze number) kept = freeze_by_kept w number w.course refl kept
  step_kept w OpenEpoch kept = open_by_kept w w.course refl kept
  step_kept w (Thaw number) kept = thaw_by_kept w number w.course refl kept

  pub run_kept : (w : World) (steps : List Step) → IsKept w → IsKept (world_after w steps)
  run_kept w [] kept = kept
  run_kept w (first ∷ steps) kept = run_kept (step_of w first).1 steps (step_kept w first kept)
