-- What the steps keep, said once, and what a change of one replica has to show.
use Rattle.std.proofs.Common.{◌≡◌, ◌<◌, ◌+◌, ◌⊎◌, ℕ, zero, suc, true, false, List, [], ◌∷◌, ◌++◌, length, map, refl, sym, ap, ◌∙◌, subst, inl, ⊎_elim, arith}
use Rattle.std.specs.Prelude.{Some, slice_get, slice_set, Contains}
use Rattle.std.proofs.lemmas.Option.{slice_get_within}
use Rattle.lucy_plan.specs.declared.parts.Call.{Call}
use Rattle.lucy_plan.specs.Segments.{IsInSegment}
use Rattle.lucy_expr.specs.declared.ids.Id.{Id}
use Rattle.lucy_expr.specs.Trees.{Tree, Apply, nodes}
use Rattle.lucy_epochs.specs.declared.causes.By.{By}
use Rattle.lucy_epochs.specs.Records.{Record, next_record}
use Rattle.lucy_epochs.specs.Contributions.{Contribution, IsMade}
use Rattle.lucy_replica.specs.Replicas.{Answer, Moved, Refused, Stay, Replica, Message, present, stays}
use Rattle.lucy_replica.specs.Facts.{WasAt, IsSettled}
use Rattle.lucy_replica.specs.Openings.{tree_in, trees_in, IsOpening, IsReplied}
use Rattle.lucy_core.specs.Worlds.{World, Course, lags, IsAt, IsSent, IsListed}
use Rattle.lucy_core.specs.Safety.{AreInOrder, IsOnSpineOf, AreOnSpines, AreParts, IsDue, IsOpened, FollowsCourse}
use Rattle.lucy_core.proofs.Places.{set_cases_apart, set_keeps, set_at, map-set_same, slice_get-last}

pub record IsKept (w : World) : Type 0 where
  pub seated : (number : ℕ) (replica : Replica) → IsAt w number replica → replica.number ≡ number
  pub settled : (number : ℕ) (replica : Replica) → IsAt w number replica → IsSettled replica
  pub in_order : AreInOrder w
  pub at_last : (number : ℕ) (replica : Replica) → IsAt w number replica → lags w.course number ≡ false → replica.epoch.number + 1 ≡ length w.records
  pub at_last_but_one : (number : ℕ) (replica : Replica) → IsAt w number replica → lags w.course number ≡ true → replica.epoch.number + 2 ≡ length w.records
  pub on_spines : (number : ℕ) (replica : Replica) (stay : Stay) → IsAt w number replica → Contains (stays replica) stay → AreOnSpines w stay.epoch stay.tree
  pub sent_on_spines : (packet : ℕ) (message : Message) → IsSent w packet message → AreOnSpines w message.epoch message.expression.tree
  pub openings : (place : ℕ) (before after : Record) → slice_get w.records place ≡ Some before → slice_get w.records (place + 1) ≡ Some after → IsOpened w before after
  pub openings_fit : (place : ℕ) (epoch : Record) → slice_get w.records place ≡ Some epoch → IsInSegment epoch.plan epoch.segment epoch.opening
  pub follows : FollowsCourse w w.course
  pub listed : (packet : ℕ) (message : Message) → IsSent w packet message → IsListed w message.epoch
  pub made : (packet : ℕ) (message : Message) → IsSent w packet message → IsMade message.epoch message.state message.expression.tree
  pub refusals : (number : ℕ) (replica : Replica) (place : ℕ) (point : Tree) (parts : List Contribution)
      → IsAt w number replica → slice_get replica.replies place ≡ Some (Refused point parts) → AreParts w.replicas parts

-- a replica's present record is a listed one
pub present_listed : (w : World) (number : ℕ) (replica : Replica) → IsAt w number replica → IsKept w → IsListed w replica.epoch
present_listed w number replica at kept =
    let front = kept.in_order.fronts number replica at in
    ap (slice_get w.records) (kept.settled number replica at).present_number
    ∙ ap (λ (records : List Record). slice_get records (length replica.closings)) front.1
    ∙ slice_get-last (λ (stay : Stay). stay.epoch) replica.closings (present replica) front.0

-- what the replica at a place may become: all that the world asks of it by itself
pub record IsChange (w : World) (k : ℕ) (before after : Replica) : Type 0 where
  pub number : after.number ≡ before.number
  pub calls : after.calls ≡ before.calls
  pub settled : IsSettled after
  -- where it was, it was after the step too
  pub was_at : (epoch : Record) (point : Tree) → WasAt before epoch point → WasAt after epoch point
  -- its replies stand
  pub replies : (place : ℕ) (answer : Answer) → slice_get before.replies place ≡ Some answer → slice_get after.replies place ≡ Some answer
  -- what it had of a record that has a next one stays
  pub past : (place : ℕ) → place + 1 < length w.records → tree_in place after ≡ tree_in place before
  -- its records are the front of the list
  pub fronts : (later : List Record) × (w.records ≡ map (λ stay. stay.epoch) (stays after) ++ later)
  -- a call of its expressions is its own, and on its spine, or was on a spine before
  pub on_spines : (stay : Stay) → Contains (stays after) stay → (id : Id) (call : Call) (inner : Tree) → Contains (nodes stay.tree) (Apply id call inner)
      → ((id.replica ≡ k) × WasAt after stay.epoch (Apply id call inner)) ⊎ IsOnSpineOf w id.replica stay.epoch (Apply id call inner)
  -- parts of its refusals
  pub refusals : (place : ℕ) (point : Tree) (parts : List Contribution) → slice_get after.replies place ≡ Some (Refused point parts) → AreParts w.replicas parts

pub length-set : {X : Type 0} (xs : List X) (i : ℕ) (y : X) → length (slice_set xs i y) ≡ length xs
length-set [] i y = refl
length-set (x ∷ xs) zero y = refl
length-set (x ∷ xs) (suc i) y = let rest = length-set xs i y in omega (arith, rest)

-- the world with another replica and another course
abbrev pub with_both : World → ℕ → Replica → Course → World
with_both w k after course = record w { replicas = slice_set w.replicas k after; course = course }

module _ (w : World) (k : ℕ) (before after : Replica) (course : Course) (at : IsAt w k before) (kept : IsKept w) (change : IsChange w k before after) where
  -- the replica at a place, after the step
  here_or_other : (number : ℕ) (replica : Replica) → IsAt (with_both w k after course) number replica
      → ((number ≡ k) × (replica ≡ after)) ⊎ ((number ≡ k → ⊥) × IsAt w number replica)
  here_or_other number replica h = set_cases_apart w.replicas k number after replica h

  -- what was on the spine of a replica still is
  pub spine_stays : (number : ℕ) (epoch : Record) (point : Tree) → IsOnSpineOf w number epoch point → IsOnSpineOf (with_both w k after course) number epoch point
  spine_stays number epoch point h =
      ⊎_elim
      (λ own. (
        after,
        subst (λ (n : ℕ). IsAt (with_both w k after course) n after) (sym own.0) (set_at w.replicas k before after at),
        change.was_at epoch point (subst (λ (r : Replica). WasAt r epoch point) own.1 h.2),
      ))
      (λ other. (h.0, other, h.2))
      (set_keeps w.replicas k number before after h.0 at h.1)

  pub spines_stay : (epoch : Record) (tree : Tree) → AreOnSpines w epoch tree → AreOnSpines (with_both w k after course) epoch tree
  spines_stay epoch tree h id call inner part = spine_stays id.replica epoch (Apply id call inner) (h id call inner part)

  pub parts_stay : (parts : List Contribution) → AreParts w.replicas parts → AreParts (slice_set w.replicas k after) parts
  parts_stay parts h = record {
    many = h.many ∙ sym (length-set w.replicas k after);
    on_spines = λ place part is. spine_stays place part.epoch part.expression.tree (h.on_spines place part is);
  }

  -- each call of the changed replica's expressions is on a spine
  stay_on_spines : (stay : Stay) → Contains (stays after) stay → AreOnSpines (with_both w k after course) stay.epoch stay.tree
  stay_on_spines stay h id call inner part =
      ⊎_elim
      (λ own. (after, subst (λ (n : ℕ). IsAt (with_both w k after course) n after) (sym own.0) (set_at w.replicas k before after at), own.1))
      (λ was. spine_stays id.replica stay.epoch (Apply id call inner) was)
      (change.on_spines stay h id call inner part)

  -- what all replicas had of a record that has a next one stays
  pub trees_stay : (place : ℕ) → place + 1 < length w.records → trees_in (slice_set w.replicas k after) place ≡ trees_in w.replicas place
  trees_stay place below = map-set_same (tree_in place) w.replicas k before after at (change.past place below)

  opening_stays : (past later : Record) (by : By) → past.number + 1 < length w.records → IsOpening w.replicas past later by → IsOpening (slice_set w.replicas k after) past later by
  opening_stays past later by below h =
      let after_is : later ≡ next_record past (trees_in (slice_set w.replicas k after) past.number) h.call by =
      h.after_is ∙ ap (λ (trees : List Tree). next_record past trees h.call by) (sym (trees_stay past.number below)) in
      ⊎_elim
      (λ own. record {
        opener = after;
        opener_at = subst (λ (n : ℕ). slice_get (slice_set w.replicas k after) n ≡ Some after) (sym own.0) (set_at w.replicas k before after at);
        call = h.call;
        call_is = ap (λ (calls : List Call). slice_get calls by.place) (change.calls ∙ ap (λ (r : Replica). r.calls) (sym own.1)) ∙ h.call_is;
        after_is = after_is;
      })
      (λ other. record { opener = h.opener; opener_at = other; call = h.call; call_is = h.call_is; after_is = after_is })
      (set_keeps w.replicas k by.replica before after h.opener at h.opener_at)

  replied_stays : (epoch : Record) (by : By) → IsReplied w.replicas epoch by → IsReplied (slice_set w.replicas k after) epoch by
  replied_stays epoch by h =
      ⊎_elim
      (λ own. record {
        opener = after;
        opener_at = subst (λ (n : ℕ). slice_get (slice_set w.replicas k after) n ≡ Some after) (sym own.0) (set_at w.replicas k before after at);
        point = h.point;
        reply_is = change.replies by.place (Moved epoch h.point (record { replica = by.replica; count = by.count }))
            (ap (λ (r : Replica). slice_get r.replies by.place) (sym own.1) ∙ h.reply_is);
      })
      (λ other. record { opener = h.opener; opener_at = other; point = h.point; reply_is = h.reply_is })
      (set_keeps w.replicas k by.replica before after h.opener at h.opener_at)

  -- a world with the changed replica keeps all, where its course says so
  pub changed_kept :
      (lagging : (number : ℕ) (replica : Replica) → IsAt (with_both w k after course) number replica
      → ((lags course number ≡ false) × (replica.epoch.number + 1 ≡ length w.records)) ⊎ ((lags course number ≡ true) × (replica.epoch.number + 2 ≡ length w.records)))
      → (due : (past epoch : Record) (by : By) → IsOpening w.replicas past epoch by → IsDue w epoch → IsReplied (slice_set w.replicas k after) epoch by ⊎ IsDue (with_both w k after course) epoch)
      → (follows : FollowsCourse (with_both w k after course) course)
      → IsKept (with_both w k after course)
  changed_kept lagging due follows = record {
    seated = λ number replica h. ⊎_elim
        (λ own. ap (λ (r : Replica). r.number) own.1 ∙ change.number ∙ kept.seated k before at ∙ sym own.0)
        (λ other. kept.seated number replica other.1)
        (here_or_other number replica h);
    settled = λ number replica h. ⊎_elim
        (λ own. subst (λ (r : Replica). IsSettled r) (sym own.1) change.settled)
        (λ other. kept.settled number replica other.1)
        (here_or_other number replica h);
    in_order = record {
      first = kept.in_order.first;
      first_is = kept.in_order.first_is;
      begins = kept.in_order.begins;
      numbered = kept.in_order.numbered;
      fronts = λ number replica h. ⊎_elim
          (λ own. subst (λ (r : Replica). (later : List Record) × (w.records ≡ map (λ (stay : Stay). stay.epoch) (stays r) ++ later)) (sym own.1) change.fronts)
          (λ other. kept.in_order.fronts number replica other.1)
          (here_or_other number replica h);
    };
    at_last = λ number replica h no. ⊎_elim (λ now. now.1) (λ was. absurd (let clash : ⊥ = cc in clash)) (lagging number replica h);
    at_last_but_one = λ number replica h yes. ⊎_elim (λ now. absurd (let clash : ⊥ = cc in clash)) (λ was. was.1) (lagging number replica h);
    on_spines = λ number replica stay h part. ⊎_elim
        (λ own. stay_on_spines stay (subst (λ (r : Replica). Contains (stays r) stay) own.1 part))
        (λ other. spines_stay stay.epoch stay.tree (kept.on_spines number replica stay other.1 part))
        (here_or_other number replica h);
    sent_on_spines = λ packet message h. spines_stay message.epoch message.expression.tree (kept.sent_on_spines packet message h);
    openings = λ place past later is then.
        let was = kept.openings place past later is then in
        let below : past.number + 1 < length w.records = rw (kept.in_order.numbered place past is) (slice_get_within w.records (place + 1) later then) in
        record {
          by = was.by;
          opening = opening_stays past later was.by below was.opening;
          answered = ⊎_elim (λ replied. inl (replied_stays later was.by replied)) (λ waits. due past later was.by was.opening waits) was.answered;
        };
    openings_fit = kept.openings_fit;
    follows = follows;
    listed = kept.listed;
    made = kept.made;
    refusals = λ number replica place point parts h is. parts_stay parts (⊎_elim
        (λ own. change.refusals place point parts (ap (λ (r : Replica). slice_get r.replies place) (sym own.1) ∙ is))
        (λ other. kept.refusals number replica place point parts other.1 is)
        (here_or_other number replica h));
  }
