-- What a replica may become by a submit, by a packet, and by a ruling.
use Rattle.std.proofs.Common.{◌≡◌, ◌<◌, ◌+◌, ◌⊎◌, ◌++◌, ℕ, false, List, [], ◌∷◌, length, map, refl, sym, ap, ◌∙◌, subst, inl, inr, ⊎_elim, arith}
use Rattle.std.specs.Prelude.{Some, slice_get, Contains}
use Rattle.std.proofs.lemmas.List.{map-append}
use Rattle.std.proofs.lemmas.List.Elements.{Contains-append_left, Contains-push, Contains-push_cases, Contains-append_cases}
use Rattle.lucy_plan.specs.declared.parts.Call.{Call}
use Rattle.lucy_expr.specs.declared.ids.Id.{Id}
use Rattle.lucy_expr.specs.Trees.{Tree, Apply, Merge, spine, nodes}
use Rattle.lucy_epochs.specs.Records.{Record}
use Rattle.lucy_epochs.specs.Contributions.{Contribution}
use Rattle.lucy_replica.specs.Replicas.{Answer, Done, Broken, Refused, Stay, Replica, Message, present, stays}
use Rattle.lucy_replica.specs.declared.answers.Submitted.{Submitted}
use Rattle.lucy_replica.specs.declared.answers.Received.{Received}
use Rattle.lucy_replica.specs.Submitting.{next_id, with_broken, with_done, with_wanted, submitted}
use Rattle.lucy_replica.specs.Receiving.{with_merged, received}
use Rattle.lucy_replica.specs.Facts.{WasAt, IsSettled}
use Rattle.lucy_replica.specs.Laws.{SubmitKeeps, ReceiveKeeps, SameExactly}
use Rattle.lucy_replica.specs.Openings.{tree_at, tree_in}
use Rattle.lucy_core.specs.Worlds.{World, lags, IsAt, IsSent}
use Rattle.lucy_core.specs.Safety.{IsOnSpineOf, AreParts}
use Rattle.lucy_core.proofs.Places.{here, later, here_or_later, push_cases, slice_get-front, front_same}
use Rattle.lucy_core.proofs.Rows.{submitted_cases, received_cases}
use Rattle.lucy_core.proofs.Kept.{IsKept, IsChange}

pub stay_cases : (replica : Replica) (stay : Stay) → Contains (stays replica) stay → Contains replica.closings stay ⊎ (present replica ≡ stay)
stay_cases replica stay h = Contains-push_cases replica.closings (present replica) stay h

pub closing_stays : (before after : Replica) (stay : Stay) → after.closings ≡ before.closings → Contains before.closings stay → Contains (stays after) stay
closing_stays before after stay same h =
    Contains-append_left after.closings (present after ∷ []) stay (subst (λ (closings : List Stay). Contains closings stay) (sym same) h)

pub present_stays : (replica : Replica) → Contains (stays replica) (present replica)
present_stays replica = Contains-push replica.closings (present replica)

-- ---- a replica that keeps its record
pub record IsSameRecord (w : World) (k : ℕ) (before after : Replica) : Type 0 where
  pub number : after.number ≡ before.number
  pub calls : after.calls ≡ before.calls
  pub epoch : after.epoch ≡ before.epoch
  pub closings : after.closings ≡ before.closings
  pub longer : (point : Tree) → Contains (spine before.expression.tree) point → Contains (spine after.expression.tree) point
  pub replies : (place : ℕ) (answer : Answer) → slice_get before.replies place ≡ Some answer → slice_get after.replies place ≡ Some answer
  pub parts : (id : Id) (call : Call) (inner : Tree) → Contains (nodes after.expression.tree) (Apply id call inner)
      → ((id.replica ≡ k) × Contains (spine after.expression.tree) (Apply id call inner)) ⊎ IsOnSpineOf w id.replica before.epoch (Apply id call inner)
  pub refusals : (place : ℕ) (point : Tree) (parts : List Contribution) → slice_get after.replies place ≡ Some (Refused point parts) → AreParts w.replicas parts

module _ (w : World) (k : ℕ) (before after : Replica) (at : IsAt w k before) (kept : IsKept w) (last : lags w.course k ≡ false)
    (same : IsSameRecord w k before after) (settled : IsSettled after) where
  same_was_at : (epoch : Record) (point : Tree) → WasAt before epoch point → WasAt after epoch point
  same_was_at epoch point h =
      ⊎_elim
      (λ closed. (h.0, closing_stays before after h.0 same.closings closed, h.2, h.3))
      (λ now. (present after, present_stays after, same.epoch ∙ ap (λ (stay : Stay). stay.epoch) now ∙ h.2, same.longer point (subst (λ (stay : Stay). Contains (spine stay.tree) point) (sym now) h.3)))
      (stay_cases before h.0 h.1)

  same_past : (place : ℕ) → place + 1 < length w.records → tree_in place after ≡ tree_in place before
  same_past place below =
      let here : place < length before.closings = omega (arith, below, kept.at_last k before at last, (kept.settled k before at).present_number) in
      let there : place < length after.closings = subst (λ (closings : List Stay). place < length closings) (sym same.closings) here in
      ap tree_at (front_same after.closings (present after ∷ []) place there
      ∙ ap (λ (closings : List Stay). slice_get closings place) same.closings
      ∙ sym (front_same before.closings (present before ∷ []) place here))

  same_records : map (λ (stay : Stay). stay.epoch) (stays after) ≡ map (λ (stay : Stay). stay.epoch) (stays before)
  same_records =
      map-append (λ (stay : Stay). stay.epoch) after.closings (present after ∷ [])
      ∙ ap (λ (closings : List Stay). map (λ (stay : Stay). stay.epoch) closings ++ after.epoch ∷ []) same.closings
      ∙ ap (λ (epoch : Record). map (λ (stay : Stay). stay.epoch) before.closings ++ epoch ∷ []) same.epoch
      ∙ sym (map-append (λ (stay : Stay). stay.epoch) before.closings (present before ∷ []))

  same_on_spines : (stay : Stay) → Contains (stays after) stay → (id : Id) (call : Call) (inner : Tree) → Contains (nodes stay.tree) (Apply id call inner)
      → ((id.replica ≡ k) × WasAt after stay.epoch (Apply id call inner)) ⊎ IsOnSpineOf w id.replica stay.epoch (Apply id call inner)
  same_on_spines stay h id call inner part =
      ⊎_elim
      (λ closed. inr (kept.on_spines k before stay at (closing_stays after before stay (sym same.closings) closed) id call inner part))
      (λ now.
      let node : Contains (nodes after.expression.tree) (Apply id call inner) = subst (λ (s : Stay). Contains (nodes s.tree) (Apply id call inner)) (sym now) part in
      ⊎_elim
      (λ own. inl (own.0, (stay, h, refl, subst (λ (s : Stay). Contains (spine s.tree) (Apply id call inner)) now own.1)))
      (λ was. inr (subst (λ (e : Record). IsOnSpineOf w id.replica e (Apply id call inner)) (sym same.epoch ∙ ap (λ (s : Stay). s.epoch) now) was))
      (same.parts id call inner node))
      (stay_cases after stay h)

  pub same_change : IsChange w k before after
  same_change = record {
    number = same.number;
    calls = same.calls;
    settled = settled;
    was_at = same_was_at;
    replies = same.replies;
    past = same_past;
    fronts = let old = kept.in_order.fronts k before at in (old.0, old.1 ∙ ap (λ (records : List Record). records ++ old.0) (sym same_records));
    on_spines = same_on_spines;
    refusals = same.refusals;
  }

-- ---- a submit
pub no_refusal : (w : World) (k : ℕ) (replica : Replica) (answer : Answer) → IsAt w k replica → IsKept w
    → ((point : Tree) (parts : List Contribution) → Refused point parts ≡ answer → ⊥)
    → (place : ℕ) (point : Tree) (parts : List Contribution) → slice_get (replica.replies ++ answer ∷ []) place ≡ Some (Refused point parts) → AreParts w.replicas parts
no_refusal w k replica answer at kept other place point parts h =
    ⊎_elim
    (λ new. absurd (other point parts new))
    (λ old. kept.refusals k replica place point parts at old)
    (push_cases replica.replies place answer (Refused point parts) h)

pub old_parts : (w : World) (k : ℕ) (replica : Replica) → IsAt w k replica → IsKept w → (id : Id) (call : Call) (inner : Tree) → Contains (nodes replica.expression.tree) (Apply id call inner)
    → IsOnSpineOf w id.replica replica.epoch (Apply id call inner)
old_parts w k replica at kept id call inner part = kept.on_spines k replica (present replica) at (present_stays replica) id call inner part

module _ (w : World) (k : ℕ) (replica : Replica) (at : IsAt w k replica) (kept : IsKept w) where
  pub stays_same : IsSameRecord w k replica replica
  stays_same = record {
    number = refl;
    calls = refl;
    epoch = refl;
    closings = refl;
    longer = λ point h. h;
    replies = λ place answer h. h;
    parts = λ id call inner part. inr (old_parts w k replica at kept id call inner part);
    refusals = λ place point parts h. kept.refusals k replica place point parts at h;
  }

  broken_same : IsSameRecord w k replica (with_broken replica)
  broken_same = record {
    number = refl;
    calls = refl;
    epoch = refl;
    closings = refl;
    longer = λ point h. h;
    replies = λ place answer h. slice_get-front replica.replies (Broken replica.epoch replica.expression.tree ∷ []) place answer h;
    parts = λ id call inner part. inr (old_parts w k replica at kept id call inner part);
    refusals = no_refusal w k replica (Broken replica.epoch replica.expression.tree) at kept (λ point parts e. cc);
  }

  done_same : (call : Call) → IsSameRecord w k replica (with_done replica call)
  done_same call = record {
    number = refl;
    calls = refl;
    epoch = refl;
    closings = refl;
    longer = λ point h. later (Apply (next_id replica) call replica.expression.tree) point (spine replica.expression.tree) h;
    replies = λ place answer h. slice_get-front replica.replies (Done replica.epoch (next_id replica) ∷ []) place answer h;
    parts = λ id other inner part. ⊎_elim
        (λ e. inl (
          (let is : id ≡ next_id replica = cc in ap (λ (i : Id). i.replica) is ∙ kept.seated k replica at),
          subst (λ (t : Tree). Contains (spine (with_done replica call).expression.tree) t) e (here (Apply (next_id replica) call replica.expression.tree) (spine replica.expression.tree)),
        ))
        (λ c. inr (old_parts w k replica at kept id other inner c))
        (here_or_later (Apply (next_id replica) call replica.expression.tree) (Apply id other inner) (nodes replica.expression.tree) part);
    refusals = no_refusal w k replica (Done replica.epoch (next_id replica)) at kept (λ point parts e. cc);
  }

  wanted_same : IsSameRecord w k replica (with_wanted replica)
  wanted_same = record {
    number = refl;
    calls = refl;
    epoch = refl;
    closings = refl;
    longer = λ point h. h;
    replies = λ place answer h. h;
    parts = λ id call inner part. inr (old_parts w k replica at kept id call inner part);
    refusals = λ place point parts h. kept.refusals k replica place point parts at h;
  }

  submitted_same : IsSameRecord w k replica (submitted replica).1
  submitted_same =
      submitted_cases (λ (answer : Submitted × Replica). IsSameRecord w k replica answer.1) replica
      stays_same broken_same (λ call next. done_same call) wanted_same

  pub submitted_change : SubmitKeeps → lags w.course k ≡ false → IsChange w k replica (submitted replica).1
  submitted_change submits last = same_change w k replica (submitted replica).1 at kept last submitted_same (submits replica (kept.settled k replica at))

  -- ---- a packet
  merged_same : (packet : ℕ) (message : Message) → IsSent w packet message → replica.epoch ≡ message.epoch → IsSameRecord w k replica (with_merged replica message)
  merged_same packet message sent same = record {
    number = refl;
    calls = refl;
    epoch = refl;
    closings = refl;
    longer = λ point h. later (Merge replica.expression.tree message.expression.tree) point (spine replica.expression.tree) h;
    replies = λ place answer h. h;
    parts = λ id call inner part. inr (⊎_elim
        (λ e. absurd (let no : ⊥ = cc in no))
        (λ c. ⊎_elim
        (λ own. old_parts w k replica at kept id call inner own)
        (λ theirs. subst (λ (e : Record). IsOnSpineOf w id.replica e (Apply id call inner)) (sym same) (kept.sent_on_spines packet message sent id call inner theirs))
        (Contains-append_cases (nodes replica.expression.tree) (nodes message.expression.tree) (Apply id call inner) c))
        (here_or_later (Merge replica.expression.tree message.expression.tree) (Apply id call inner) (nodes replica.expression.tree ++ nodes message.expression.tree) part));
    refusals = λ place point parts h. kept.refusals k replica place point parts at h;
  }

  received_same : SameExactly → (packet : ℕ) (message : Message) → IsSent w packet message → IsSameRecord w k replica (received message replica).1
  received_same exactly packet message sent =
      received_cases (λ (answer : Received × Replica). IsSameRecord w k replica answer.1) message replica
      stays_same stays_same (λ same. merged_same packet message sent ((exactly replica.epoch message.epoch).0 same))

  pub received_change : SameExactly → ReceiveKeeps → (packet : ℕ) (message : Message) → IsSent w packet message → lags w.course k ≡ false → IsChange w k replica (received message replica).1
  received_change exactly receives packet message sent last =
      same_change w k replica (received message replica).1 at kept last (received_same exactly packet message sent)
      (receives message replica (kept.made packet message sent) (kept.settled k replica at))

  pub submitted_epoch : (submitted replica).1.epoch ≡ replica.epoch
  submitted_epoch = submitted_same.epoch

  pub received_epoch : (message : Message) → (received message replica).1.epoch ≡ replica.epoch
  received_epoch message = received_cases (λ (answer : Received × Replica). answer.1.epoch ≡ replica.epoch) message replica refl refl (λ same. refl)
