-- How a replica answers, case by case.
use Rattle.std.proofs.Common.{◌≡◌, Bool, true, false, List, refl, if◌then◌else◌}
use Rattle.std.specs.Prelude.{Option, Some, None}
use Rattle.lucy_plan.specs.declared.parts.Call.{Call}
use Rattle.lucy_expr.specs.Trees.{Tree}
use Rattle.lucy_epochs.specs.Records.{Record}
use Rattle.lucy_epochs.specs.Contributions.{Contribution}
use Rattle.lucy_replica.specs.declared.answers.Submitted.{Submitted}
use Rattle.lucy_replica.specs.declared.answers.Submitted.TheVariants.{Done, Broken, Wants, Ended}
use Rattle.lucy_replica.specs.declared.answers.Received.{Received}
use Rattle.lucy_replica.specs.declared.answers.Received.TheVariants.{Merged, Stale, Deep}
use Rattle.lucy_replica.specs.declared.answers.Adoption.{Adoption}
use Rattle.lucy_replica.specs.declared.answers.Adoption.TheVariants as answer
use Rattle.lucy_replica.specs.Replicas.{Replica, Message}
use Rattle.lucy_replica.specs.Submitting.{next_call, next_id, breaks, is_inside, with_broken, with_done, with_wanted, tried, submitted}
use Rattle.lucy_replica.specs.Receiving.{is_same_record, is_deep, with_merged, received}
use Rattle.lucy_replica.specs.Changing.{with_epoch, with_moved, with_refused, moved, refused}

pub if_cases : {A : Type 0} (P : A → Type 0) (b : Bool) (x y : A) → (b ≡ true → P x) → (b ≡ false → P y) → P (if b then x else y)
if_cases P true x y f g = f refl
if_cases P false x y f g = g refl

module _ (P : Submitted × Replica → Type 0) (replica : Replica)
    (stays : P (Ended, replica))
    (broken : P (Broken, with_broken replica))
    (done : (call : Call) → next_call replica ≡ Some call → P (Done (next_id replica), with_done replica call))
    (wants : P (Wants, with_wanted replica)) where
  tried_cases : (call : Option Call) → next_call replica ≡ call → P (tried replica call)
  tried_cases None e = stays
  tried_cases (Some call) e =
      if_cases P (breaks replica.epoch replica.expression.tree call) _ _
      (λ b. broken)
      (λ b. if_cases P (is_inside replica.epoch replica.expression.tree call) _ _ (λ i. done call e) (λ i. wants))

  -- the four ways in which a replica answers a submit
  pub submitted_cases : P (submitted replica)
  submitted_cases = tried_cases (next_call replica) refl

-- the ways in which a replica answers a packet: it merges what is of its record, or stays
pub received_cases : (P : Received × Replica → Type 0) (message : Message) (replica : Replica)
    → P (Stale, replica) → P (Deep, replica) → (is_same_record replica.epoch message.epoch ≡ true → P (Merged, with_merged replica message)) → P (received message replica)
received_cases P message replica stale deep merged =
    if_cases P (is_same_record replica.epoch message.epoch) _ _
    (λ same. if_cases P (is_deep replica message) _ _ (λ d. deep) (λ d. merged same))
    (λ apart. stale)

-- the ways in which a coordinator answers a ruling that opened a record, and one that refused its call
pub moved_cases : (P : Adoption × Replica → Type 0) (replica : Replica) (epoch : Record) (wanted : Option Tree)
    → P (answer.Adopted, with_epoch replica epoch) → ((point : Tree) → P (answer.Moved (next_id replica), with_moved replica epoch point)) → P (moved replica epoch wanted)
moved_cases P replica epoch None alone with_reply = alone
moved_cases P replica epoch (Some point) alone with_reply = with_reply point

pub refused_cases : (P : Adoption × Replica → Type 0) (replica : Replica) (parts : List Contribution) (wanted : Option Tree)
    → P (answer.Kept, replica) → ((point : Tree) → P (answer.Refused, with_refused replica parts point)) → P (refused replica parts wanted)
refused_cases P replica parts None alone with_reply = alone
refused_cases P replica parts (Some point) alone with_reply = with_reply point
