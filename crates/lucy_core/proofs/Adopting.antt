-- What a replica may become by a ruling.
use Rattle.std.proofs.Common.{◌≡◌, ◌+◌, ◌++◌, ◌==◌, ℕ, Bool, true, false, List, [], ◌∷◌, length, map, refl, sym, ap, ◌∙◌, subst, inr, ⊎_elim, arith}
use Rattle.std.specs.Prelude.{Some, slice_get, Contains}
use Rattle.std.proofs.lemmas.List.{map-append, length-append, length-map, append-nil}
use Rattle.std.proofs.lemmas.List.Elements.{Contains-append_left, Contains-push_cases}
use Rattle.std.proofs.lemmas.Bool.{eqb-true}
use Rattle.lucy_expr.specs.Trees.{Tree, Start, Apply, nodes}
use Rattle.lucy_epochs.specs.Records.{Record}
use Rattle.lucy_epochs.specs.Contributions.{Contribution}
use Rattle.lucy_epochs.specs.Rulings.{Ruling, Opened, Nothing}
use Rattle.lucy_epochs.specs.Rulings as ruling
use Rattle.lucy_replica.specs.Replicas.{Answer, Moved, Refused, Stay, Replica, present, stays}
use Rattle.lucy_replica.specs.declared.answers.Adoption.{Adoption}
use Rattle.lucy_replica.specs.Submitting.{next_id}
use Rattle.lucy_replica.specs.Changing.{contributed, with_epoch, with_moved, with_refused, adopted}
use Rattle.lucy_replica.specs.declared.answers.Adoption.TheVariants as answer
use Rattle.lucy_replica.specs.Suiting.{IsNext, IsOpener, IsOutvoted, Suits}
use Rattle.lucy_replica.specs.Facts.{IsSettled}
use Rattle.lucy_replica.specs.Laws.{AdoptKeeps}
use Rattle.lucy_replica.specs.Openings.{tree_at}
use Rattle.lucy_core.specs.Worlds.{World, Course, Decided, entry, lags, IsAt}
use Rattle.lucy_core.specs.Safety.{AreParts, IsOpened, HasOpened, HasBroken, FollowsCourse}
use Rattle.lucy_core.proofs.Places.{here_or_later, push_cases, slice_get-front, front_same, one_more}
use Rattle.lucy_core.proofs.Rows.{if_cases, moved_cases, refused_cases}
use Rattle.lucy_core.proofs.Kept.{IsKept, IsChange, present_listed}
use Rattle.lucy_core.proofs.OneChange.{no_refusal, stays_same, same_change, old_parts, IsSameRecord}

none_contained : {X : Type 0} (x : X) → Contains [] x → ⊥
none_contained x h = let below = h.1 in omega arith

-- ---- a record was opened
module _ (w : World) (k : ℕ) (replica : Replica) (at : IsAt w k replica) (kept : IsKept w)
    (c : ℕ) (epoch : Record) (frozen : List Bool) (course_is : w.course ≡ Decided c (Opened epoch) frozen) (waits : entry frozen k ≡ true) where
  pub has_opened : HasOpened w c epoch frozen
  has_opened = (subst (FollowsCourse w) course_is kept.follows).2

  pub but_one : replica.epoch.number + 2 ≡ length w.records
  but_one = kept.at_last_but_one k replica at (ap (λ (course : Course). lags course k) course_is ∙ waits)

  number_is : epoch.number ≡ replica.epoch.number + 1
  number_is = omega (arith, has_opened.last, but_one)

  -- the new record was opened from the replica's own
  pub opened_from : IsOpened w replica.epoch epoch
  opened_from =
      kept.openings replica.epoch.number replica.epoch epoch (present_listed w k replica at kept)
      (subst (λ (n : ℕ). slice_get w.records n ≡ Some epoch) number_is has_opened.listed)

  pub is_next : IsNext replica epoch
  is_next = record {
    number = number_is;
    plan_is = ap (λ (e : Record). e.plan) opened_from.opening.after_is;
    fits = kept.openings_fit epoch.number epoch has_opened.listed;
  }

  -- what it has with these replies
  module _ (replies : List Answer)
      (keep : (place : ℕ) (answer : Answer) → slice_get replica.replies place ≡ Some answer → slice_get replies place ≡ Some answer)
      (refusals : (place : ℕ) (point : Tree) (parts : List Contribution) → slice_get replies place ≡ Some (Refused point parts) → AreParts w.replicas parts) where
    pub epoch_change : IsSettled (record (with_epoch replica epoch) { replies = replies }) → IsChange w k replica (record (with_epoch replica epoch) { replies = replies })
    epoch_change settled =
        let next : Replica = record (with_epoch replica epoch) { replies = replies } in
        let of : Stay → Record = λ stay. stay.epoch in
        let long : length (stays replica) ≡ replica.epoch.number + 1 =
        omega (arith, length-append replica.closings (present replica ∷ []), (kept.settled k replica at).present_number) in
        let front = kept.in_order.fronts k replica at in
        let many : length (map of (stays replica)) ≡ length (stays replica) = length-map (stays replica) of in
        let one : front.0 ≡ epoch ∷ [] =
        one_more (map of (stays replica)) front.0 epoch
        (ap (slice_get (map of (stays replica) ++ front.0)) (many ∙ long ∙ sym number_is) ∙ ap (λ (records : List Record). slice_get records epoch.number) (sym front.1) ∙ has_opened.listed)
        (ap length (sym front.1) ∙ sym but_one ∙ (let e : replica.epoch.number + 2 ≡ length (map of (stays replica)) + 1 = omega (arith, many, long) in e)) in
        record {
          number = refl;
          calls = refl;
          settled = settled;
          was_at = λ e point h. (h.0, Contains-append_left (stays replica) (present next ∷ []) h.0 h.1, h.2, h.3);
          replies = keep;
          past = λ place below. ap tree_at (front_same (stays replica) (present next ∷ []) place (omega (arith, below, but_one, long)));
          fronts = ([], front.1 ∙ ap (λ (later : List Record). map of (stays replica) ++ later) one ∙ sym (map-append of (stays replica) (present next ∷ [])) ∙ sym (append-nil (map of (stays next))));
          on_spines = λ stay h id call inner part. ⊎_elim
              (λ old. inr (kept.on_spines k replica stay at old id call inner part))
              (λ now. absurd (
              let none : Contains (Start ∷ []) (Apply id call inner) = subst (λ (s : Stay). Contains (nodes s.tree) (Apply id call inner)) (sym now) part in
              ⊎_elim (λ e. let no : ⊥ = cc in no) (λ rest. none_contained (Apply id call inner) rest) (here_or_later Start (Apply id call inner) [] none)))
              (Contains-push_cases (stays replica) (present next) stay h);
          refusals = refusals;
        }

  pub with_epoch_change : IsSettled (with_epoch replica epoch) → IsChange w k replica (with_epoch replica epoch)
  with_epoch_change settled = epoch_change replica.replies (λ place answer h. h) (λ place point parts h. kept.refusals k replica place point parts at h) settled

  pub with_moved_change : (point : Tree) → IsSettled (with_moved replica epoch point) → IsChange w k replica (with_moved replica epoch point)
  with_moved_change point settled =
      let last : Answer = Moved epoch point (next_id replica) in
      epoch_change (replica.replies ++ last ∷ []) (λ place answer h. slice_get-front replica.replies (last ∷ []) place answer h)
      (no_refusal w k replica last at kept (λ p parts e. cc)) settled

  -- the coordinator that is still frozen opened the record
  pub opener_of : (k ≡ c) → IsOpener replica epoch
  opener_of own =
      let here : IsAt w c replica = subst (λ (n : ℕ). IsAt w n replica) own at in
      let waiting : entry frozen c ≡ true = subst (λ (n : ℕ). entry frozen n ≡ true) own waits in
      let want = has_opened.wants replica here waiting in
      record { point = want.0; wanted_is = want.1; by_is = has_opened.names replica here waiting }

-- ---- a call was refused
module _ (w : World) (k : ℕ) (replica : Replica) (at : IsAt w k replica) (kept : IsKept w)
    (c : ℕ) (parts : List Contribution) (frozen : List Bool) (course_is : w.course ≡ Decided c (ruling.Broken parts) frozen) (waits : entry frozen k ≡ true) where
  has_broken : HasBroken w c parts frozen
  has_broken = (subst (FollowsCourse w) course_is kept.follows).2

  not_behind : lags w.course k ≡ false
  not_behind = ap (λ (course : Course). lags course k) course_is

  outvoted_of : (k ≡ c) → IsOutvoted replica parts
  outvoted_of own =
      let here : IsAt w c replica = subst (λ (n : ℕ). IsAt w n replica) own at in
      let waiting : entry frozen c ≡ true = subst (λ (n : ℕ). entry frozen n ≡ true) own waits in
      let want = has_broken.wants replica here waiting in
      let mine = has_broken.own replica here waiting in
      let epoch_is : replica.epoch ≡ has_broken.epoch = has_broken.of_one c (contributed replica) mine in
      record {
        point = want.0;
        wanted_is = want.1;
        own_is = subst (λ (n : ℕ). slice_get parts n ≡ Some (contributed replica)) (sym own ∙ sym (kept.seated k replica at)) mine;
        of_one = λ place part h. has_broken.of_one place part h ∙ sym epoch_is;
        seats = has_broken.seats;
        made = has_broken.made;
        breaks = λ call next. has_broken.breaks replica call here waiting next;
      }

  refused_same : (point : Tree) → IsSameRecord w k replica (with_refused replica parts point)
  refused_same point = record {
    number = refl;
    calls = refl;
    epoch = refl;
    closings = refl;
    longer = λ p h. h;
    replies = λ place answer h. slice_get-front replica.replies (Refused point parts ∷ []) place answer h;
    parts = λ id call inner part. inr (old_parts w k replica at kept id call inner part);
    refusals = λ place p others h. ⊎_elim
        (λ new. let same : others ≡ parts = cc in subst (AreParts w.replicas) (sym same) has_broken.are_parts)
        (λ old. kept.refusals k replica place p others at old)
        (push_cases replica.replies place (Refused point parts) (Refused p others) h);
  }

-- ---- every ruling
is_coordinator : (k c : ℕ) → (k == c) ≡ true → k ≡ c
is_coordinator k c h = eqb-true k c h

module _ (w : World) (k : ℕ) (replica : Replica) (at : IsAt w k replica) (kept : IsKept w) (c : ℕ) (frozen : List Bool) (waits : entry frozen k ≡ true) where
  pub suits : (decision : Ruling) → w.course ≡ Decided c decision frozen → Suits decision (k == c) replica
  suits (Opened epoch) course_is =
      (is_next w k replica at kept c epoch frozen course_is waits, λ own. opener_of w k replica at kept c epoch frozen course_is waits (is_coordinator k c own))
  suits (ruling.Broken parts) course_is = λ own. outvoted_of w k replica at kept c parts frozen course_is waits (is_coordinator k c own)
  suits Nothing course_is = tt

  change_by : (decision : Ruling) → w.course ≡ Decided c decision frozen → IsSettled (adopted decision (k == c) replica).1 → IsChange w k replica (adopted decision (k == c) replica).1
  change_by (Opened epoch) course_is =
      let P : Adoption × Replica → Type 0 = λ a. IsSettled a.1 → IsChange w k replica a.1 in
      let alone : P (answer.Adopted, with_epoch replica epoch) = with_epoch_change w k replica at kept c epoch frozen course_is waits in
      if_cases P (k == c) _ _
      (λ own. moved_cases P replica epoch replica.wanted alone (λ point. with_moved_change w k replica at kept c epoch frozen course_is waits point))
      (λ other. alone)
  change_by (ruling.Broken parts) course_is =
      let P : Adoption × Replica → Type 0 = λ a. IsSettled a.1 → IsChange w k replica a.1 in
      let last = not_behind w k replica at kept c parts frozen course_is waits in
      let alone : P (answer.Kept, replica) = same_change w k replica replica at kept last (stays_same w k replica at kept) in
      if_cases P (k == c) _ _
      (λ own. refused_cases P replica parts replica.wanted alone
      (λ point. same_change w k replica (with_refused replica parts point) at kept last (refused_same w k replica at kept c parts frozen course_is waits point)))
      (λ other. alone)
  change_by Nothing course_is = same_change w k replica replica at kept (ap (λ (course : Course). lags course k) course_is) (stays_same w k replica at kept)

  pub adopted_change : AdoptKeeps → (decision : Ruling) → w.course ≡ Decided c decision frozen → IsChange w k replica (adopted decision (k == c) replica).1
  adopted_change adopts decision course_is =
      change_by decision course_is (adopts decision (k == c) replica (suits decision course_is) (kept.settled k replica at))
