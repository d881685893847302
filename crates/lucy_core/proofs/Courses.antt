-- What a change of one replica does to what is known of the course.
use Rattle.std.proofs.Common.{◌≡◌, ◌<◌, ◌+◌, ◌⊎◌, ℕ, Bool, true, false, List, length, refl, sym, ap, ◌∙◌, subst, inl, inr, ⊎_elim}
use Rattle.std.specs.Prelude.{slice_set}
use Rattle.lucy_epochs.specs.declared.causes.By.{By}
use Rattle.lucy_epochs.specs.Records.{Record}
use Rattle.lucy_epochs.specs.Rulings.{Ruling, Opened, Nothing}
use Rattle.lucy_epochs.specs.Rulings as ruling
use Rattle.lucy_replica.specs.Replicas.{Replica}
use Rattle.lucy_replica.specs.Openings.{IsOpening, IsReplied}
use Rattle.lucy_core.specs.Worlds.{World, Course, Idle, Freezing, Decided, entry, is_frozen, lags, IsAt}
use Rattle.lucy_core.specs.Steps.{with_replica}
use Rattle.lucy_core.specs.Safety.{IsDue, StillWants, HasDecided, FollowsCourse}
use Rattle.lucy_core.proofs.Places.{set_cases_apart}
use Rattle.lucy_core.proofs.Kept.{IsKept, IsChange, with_both, length-set, parts_stay, changed_kept}

-- who is not frozen has the last record
pub not_lagging : (course : Course) (number : ℕ) → is_frozen course number ≡ false → lags course number ≡ false
not_lagging Idle number free = refl
not_lagging (Freezing coordinator frozen) number free = refl
not_lagging (Decided coordinator (Opened epoch) frozen) number free = free
not_lagging (Decided coordinator (ruling.Broken parts) frozen) number free = refl
not_lagging (Decided coordinator Nothing frozen) number free = refl

-- which record a replica has, in one of two ways
abbrev pub HasPlace : World → Course → ℕ → Replica → Type 0
HasPlace w course number replica =
    ((lags course number ≡ false) × (replica.epoch.number + 1 ≡ length w.records)) ⊎ ((lags course number ≡ true) × (replica.epoch.number + 2 ≡ length w.records))

place_by : (w : World) (number : ℕ) (replica : Replica) (lag : Bool) → lags w.course number ≡ lag → IsAt w number replica → IsKept w → HasPlace w w.course number replica
place_by w number replica true is at kept = inr (is, kept.at_last_but_one number replica at is)
place_by w number replica false is at kept = inl (is, kept.at_last number replica at is)

pub place_of : (w : World) (number : ℕ) (replica : Replica) → IsAt w number replica → IsKept w → HasPlace w w.course number replica
place_of w number replica at kept = place_by w number replica (lags w.course number) refl at kept

-- ---- what is decided stays decided, where the coordinator is still frozen only if it was and is unchanged
module _ (w : World) (k : ℕ) (before after : Replica) (course : Course) (at : IsAt w k before) (kept : IsKept w) (change : IsChange w k before after)
    (c : ℕ) (frozen more : List Bool)
    (waits : (replica : Replica) → IsAt (with_both w k after course) c replica → entry more c ≡ true → IsAt w c replica × (entry frozen c ≡ true)) where
  wants_stay : StillWants w c frozen → StillWants (with_both w k after course) c more
  wants_stay wants replica h waiting = let was = waits replica h waiting in wants replica was.0 was.1

  pub decided_stays : (decision : Ruling) → HasDecided w c decision frozen → HasDecided (with_both w k after course) c decision more
  decided_stays (Opened epoch) h = record {
    listed = h.listed;
    last = h.last;
    wants = wants_stay h.wants;
    names = λ replica here waiting. let was = waits replica here waiting in h.names replica was.0 was.1;
  }
  decided_stays (ruling.Broken parts) h = record {
    wants = wants_stay h.wants;
    are_parts = parts_stay w k before after course at kept change parts h.are_parts;
    epoch = h.epoch;
    listed = h.listed;
    last = h.last;
    of_one = h.of_one;
    seats = h.seats;
    made = h.made;
    own = λ replica here waiting. let was = waits replica here waiting in h.own replica was.0 was.1;
    breaks = λ replica call here waiting next. let was = waits replica here waiting in h.breaks replica call was.0 was.1 next;
  }
  decided_stays Nothing h = tt

-- ---- a replica that is not frozen changes, and has the same record after
module _ (w : World) (k : ℕ) (before after : Replica) (at : IsAt w k before) (kept : IsKept w) (change : IsChange w k before after)
    (free : is_frozen w.course k ≡ false) (same : after.epoch ≡ before.epoch) where
  free_place : (number : ℕ) (replica : Replica) → IsAt (with_both w k after w.course) number replica → HasPlace w w.course number replica
  free_place number replica h =
      ⊎_elim
      (λ own.
      let here : lags w.course number ≡ false = ap (lags w.course) own.0 ∙ not_lagging w.course k free in
      let last : before.epoch.number + 1 ≡ length w.records = kept.at_last k before at (not_lagging w.course k free) in
      inl (here, ap (λ (r : Replica). r.epoch.number + 1) own.1 ∙ ap (λ (e : Record). e.number + 1) same ∙ last))
      (λ other. place_of w number replica other.1 kept)
      (set_cases_apart w.replicas k number after replica h)

  free_due : (past epoch : Record) (by : By) → IsOpening w.replicas past epoch by → IsDue w epoch
      → IsReplied (slice_set w.replicas k after) epoch by ⊎ IsDue (with_both w k after w.course) epoch
  free_due past epoch by opening due = inr (record { coordinator = due.coordinator; frozen = due.frozen; course_is = due.course_is; waits = due.waits })

  free_waits : (c : ℕ) (frozen : List Bool) → entry frozen k ≡ false → (replica : Replica) → IsAt (with_both w k after w.course) c replica → entry frozen c ≡ true
      → IsAt w c replica × (entry frozen c ≡ true)
  free_waits c frozen thawed replica h waiting =
      ⊎_elim
      (λ own. absurd (let clash : entry frozen k ≡ true = ap (entry frozen) (sym own.0) ∙ waiting in let no : ⊥ = cc in no))
      (λ other. (other.1, waiting))
      (set_cases_apart w.replicas k c after replica h)

  free_follows : (course : Course) → is_frozen course k ≡ false → FollowsCourse w course → FollowsCourse (with_both w k after w.course) course
  free_follows Idle thawed h = tt
  free_follows (Freezing c frozen) thawed h = (h.0 ∙ sym (length-set w.replicas k after), subst (λ (n : ℕ). c < n) (sym (length-set w.replicas k after)) h.1)
  free_follows (Decided c decision frozen) thawed h = (
    h.0 ∙ sym (length-set w.replicas k after),
    subst (λ (n : ℕ). c < n) (sym (length-set w.replicas k after)) h.1,
    decided_stays w k before after w.course at kept change c frozen frozen (free_waits c frozen thawed) decision h.2,
  )

  pub free_kept : IsKept (with_replica w k after)
  free_kept = changed_kept w k before after w.course at kept change free_place free_due (free_follows w.course free kept.follows)
