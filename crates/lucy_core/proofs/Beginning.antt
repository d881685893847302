-- A change begins, a replica is frozen, a packet is sent: no replica and no record changes.
use Rattle.std.proofs.Common.{◌≡◌, arith, ℕ, Bool, true, false, List, map, refl, sym, ap, ◌∙◌, subst, inl, inr, ⊎_elim}
use Rattle.std.specs.Prelude.{slice_get, slice_set}
use Rattle.std.proofs.lemmas.List.{length-map}
use Rattle.std.proofs.lemmas.Option.{same_Some, slice_get_within}
use Rattle.lucy_epochs.specs.Records.{Record}
use Rattle.lucy_epochs.specs.Rulings.{Ruling, Opened}
use Rattle.lucy_epochs.specs.Contributions.{IsMade}
use Rattle.lucy_replica.specs.Replicas.{Replica, Message, present}
use Rattle.lucy_replica.specs.Submitting.{published}
use Rattle.lucy_replica.specs.Facts.{IsStay}
use Rattle.lucy_core.specs.Worlds.{World, Course, Idle, Freezing, Decided, lags, IsAt, IsListed}
use Rattle.lucy_core.specs.Steps.{with_course, with_packet}
use Rattle.lucy_core.specs.Safety.{AreOnSpines, IsDue, FollowsCourse, HasDecided}
use Rattle.lucy_epochs.specs.Rulings as ruling
use Rattle.lucy_core.proofs.Places.{push_cases}
use Rattle.lucy_core.proofs.Kept.{IsKept, present_listed, length-set}
use Rattle.lucy_core.proofs.OneChange.{present_stays}

-- ---- another course, in which no record is due, where none was
pub course_kept : (w : World) (course : Course) → IsKept w
    → ((number : ℕ) → lags w.course number ≡ false) → ((number : ℕ) → lags course number ≡ false)
    → ((epoch : Record) → IsDue w epoch → ⊥) → FollowsCourse (with_course w course) course → IsKept (with_course w course)
course_kept w course kept was now none follows = record {
  seated = kept.seated;
  settled = kept.settled;
  in_order = record {
    first = kept.in_order.first;
    first_is = kept.in_order.first_is;
    begins = kept.in_order.begins;
    numbered = kept.in_order.numbered;
    fronts = kept.in_order.fronts;
  };
  at_last = λ number replica at h. kept.at_last number replica at (was number);
  at_last_but_one = λ number replica at h. absurd (let free = now number in let no : ⊥ = cc in no);
  on_spines = kept.on_spines;
  sent_on_spines = kept.sent_on_spines;
  openings = λ place before after is next.
      let opened = kept.openings place before after is next in
      record { by = opened.by; opening = opened.opening; answered = ⊎_elim (λ replied. inl replied) (λ due. absurd (none after due)) opened.answered };
  openings_fit = kept.openings_fit;
  follows = follows;
  listed = kept.listed;
  made = kept.made;
  refusals = kept.refusals;
}

-- where no replica lags, all have one record
pub one_record : (w : World) → IsKept w → ((number : ℕ) → lags w.course number ≡ false) → (k number : ℕ) (replica other : Replica) → IsAt w k replica → IsAt w number other → other.epoch ≡ replica.epoch
one_record w kept last k number replica other at h =
    let same : other.epoch.number ≡ replica.epoch.number = omega (arith, kept.at_last number other h (last number), kept.at_last k replica at (last k)) in
    same_Some other.epoch replica.epoch (sym (present_listed w number other h kept) ∙ ap (slice_get w.records) same ∙ present_listed w k replica at kept)

-- ---- a packet more
decided_sent : (w : World) (message : Message) (c : ℕ) (decision : Ruling) (frozen : List Bool) → HasDecided w c decision frozen → HasDecided (with_packet w message) c decision frozen
decided_sent w message c (Opened epoch) frozen h = record { listed = h.listed; last = h.last; wants = h.wants; names = h.names }
decided_sent w message c (ruling.Broken parts) frozen h = record {
  wants = h.wants;
  are_parts = h.are_parts;
  epoch = h.epoch;
  listed = h.listed;
  last = h.last;
  of_one = h.of_one;
  seats = h.seats;
  made = h.made;
  own = h.own;
  breaks = h.breaks;
}
decided_sent w message c ruling.Nothing frozen h = tt

follows_sent : (w : World) (message : Message) (course : Course) → FollowsCourse w course → FollowsCourse (with_packet w message) course
follows_sent w message Idle h = tt
follows_sent w message (Freezing c frozen) h = h
follows_sent w message (Decided c decision frozen) h = (h.0, h.1, decided_sent w message c decision frozen h.2)

pub sent_kept : (w : World) (number : ℕ) (replica : Replica) → IsAt w number replica → IsKept w → IsKept (with_packet w (published replica))
sent_kept w number replica at kept =
    let stay : IsStay replica (present replica) = (kept.settled number replica at).open_stay in
    record {
      seated = kept.seated;
      settled = kept.settled;
      in_order = record {
        first = kept.in_order.first;
        first_is = kept.in_order.first_is;
        begins = kept.in_order.begins;
        numbered = kept.in_order.numbered;
        fronts = kept.in_order.fronts;
      };
      at_last = kept.at_last;
      at_last_but_one = kept.at_last_but_one;
      on_spines = kept.on_spines;
      sent_on_spines = λ packet message h. ⊎_elim
          (λ last. subst (λ (m : Message). AreOnSpines w m.epoch m.expression.tree) (sym last) (kept.on_spines number replica (present replica) at (present_stays replica)))
          (λ before. kept.sent_on_spines packet message before)
          (push_cases w.packets packet (published replica) message h);
      openings = λ place before after is next.
          let opened = kept.openings place before after is next in
          record {
            by = opened.by;
            opening = opened.opening;
            answered = ⊎_elim (λ replied. inl replied)
                (λ due. inr (record { coordinator = due.coordinator; frozen = due.frozen; course_is = due.course_is; waits = due.waits })) opened.answered;
          };
      openings_fit = kept.openings_fit;
      follows = follows_sent w (published replica) w.course kept.follows;
      listed = λ packet message h. ⊎_elim
          (λ last. subst (λ (m : Message). IsListed w m.epoch) (sym last) (present_listed w number replica at kept))
          (λ before. kept.listed packet message before)
          (push_cases w.packets packet (published replica) message h);
      made = λ packet message h. ⊎_elim
          (λ last. subst (λ (m : Message). IsMade m.epoch m.state m.expression.tree) (sym last) stay.made)
          (λ before. kept.made packet message before)
          (push_cases w.packets packet (published replica) message h);
      refusals = kept.refusals;
    }

-- ---- a change begins
pub none_due_idle : (w : World) → w.course ≡ Idle → (epoch : Record) → IsDue w epoch → ⊥
none_due_idle w is epoch due = let clash : Decided due.coordinator (Opened epoch) due.frozen ≡ Idle = sym due.course_is ∙ is in cc

pub none_due_freezing : (w : World) (c : ℕ) (frozen : List Bool) → w.course ≡ Freezing c frozen → (epoch : Record) → IsDue w epoch → ⊥
none_due_freezing w c frozen is epoch due = let clash : Decided due.coordinator (Opened epoch) due.frozen ≡ Freezing c frozen = sym due.course_is ∙ is in cc

pub begun_kept : (w : World) (number : ℕ) (replica : Replica) → IsAt w number replica → w.course ≡ Idle → IsKept w
    → IsKept (with_course w (Freezing number (map (λ (replica : Replica). false) w.replicas)))
begun_kept w number replica at is kept =
    course_kept w (Freezing number (map (λ (replica : Replica). false) w.replicas)) kept
    (λ n. ap (λ (course : Course). lags course n) is) (λ n. refl) (none_due_idle w is)
    (length-map w.replicas (λ (replica : Replica). false), slice_get_within w.replicas number replica at)

-- ---- a replica is frozen
pub frozen_kept : (w : World) (number c : ℕ) (frozen : List Bool) → w.course ≡ Freezing c frozen → IsKept w → IsKept (with_course w (Freezing c (slice_set frozen number true)))
frozen_kept w number c frozen is kept =
    let was = subst (FollowsCourse w) is kept.follows in
    course_kept w (Freezing c (slice_set frozen number true)) kept
    (λ n. ap (λ (course : Course). lags course n) is) (λ n. refl) (none_due_freezing w c frozen is)
    (length-set frozen number true ∙ was.0, was.1)
