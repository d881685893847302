-- A replica is thawed.
use Rattle.std.proofs.Common.{◌≡◌, ◌<◌, ◌+◌, ◌⊎◌, ◌==◌, ◌||◌, ℕ, zero, suc, Bool, true, false, List, [], ◌∷◌, length, refl, sym, ap, ◌∙◌, subst, inl, inr, ⊎_elim}
use Rattle.std.specs.Prelude.{Option, Some, slice_get, slice_set, unwrap_or}
use Rattle.std.specs.List.{list_any}
use Rattle.std.proofs.lemmas.Option.{same_Some}
use Rattle.std.proofs.lemmas.Bool.{eqb-true, eqb-false, eq-eqb}
use Rattle.lucy_expr.specs.Trees.{Tree}
use Rattle.lucy_epochs.specs.declared.causes.By.{By}
use Rattle.lucy_epochs.specs.Records.{Record}
use Rattle.lucy_epochs.specs.Rulings.{Ruling, Opened, Nothing}
use Rattle.lucy_epochs.specs.Rulings as ruling
use Rattle.lucy_replica.specs.Replicas.{Moved, Replica}
use Rattle.lucy_replica.specs.declared.answers.Adoption.{Adoption}
use Rattle.lucy_replica.specs.Submitting.{next_id}
use Rattle.lucy_replica.specs.Changing.{next_by, with_moved, moved, adopted}
use Rattle.lucy_replica.specs.Laws.{AdoptKeeps}
use Rattle.lucy_replica.specs.Openings.{IsOpening, IsReplied}
use Rattle.lucy_core.specs.Worlds.{World, Course, Decided, entry, lags, IsAt}
use Rattle.lucy_core.specs.Steps.{still}
use Rattle.lucy_core.specs.Safety.{IsDue, FollowsCourse}
use Rattle.lucy_core.proofs.Places.{set_cases_apart, set_at, set_other, last_at}
use Rattle.lucy_core.proofs.Rows.{if_cases, moved_cases, refused_cases}
use Rattle.lucy_core.proofs.Kept.{IsKept, IsChange, with_both, length-set, changed_kept}
use Rattle.lucy_core.proofs.Courses.{HasPlace, place_of, decided_stays}
use Rattle.lucy_core.proofs.Adopting.{has_opened, opener_of, adopted_change}

-- ---- who is frozen
-- where one is frozen, some are
pub some_frozen : (frozen : List Bool) (k : ℕ) → entry frozen k ≡ true → list_any (λ f. f) frozen ≡ true
some_frozen [] k h = cc
some_frozen (f ∷ frozen) zero h = ap (λ (b : Bool). b || list_any (λ f. f) frozen) h
some_frozen (f ∷ frozen) (suc k) h = either f (list_any (λ f. f) frozen) (some_frozen frozen k h)
  where
    either : (a b : Bool) → b ≡ true → (a || b) ≡ true
    either true b h = refl
    either false b h = h

entry_by : (frozen : List Bool) (k : ℕ) (f : Bool) → entry frozen k ≡ f → list_any (λ f. f) frozen ≡ false → entry frozen k ≡ false
entry_by frozen k true is none = absurd (let some = some_frozen frozen k is in let no : ⊥ = cc in no)
entry_by frozen k false is none = is

-- and where none are, none is
none_frozen : (frozen : List Bool) (k : ℕ) → list_any (λ f. f) frozen ≡ false → entry frozen k ≡ false
none_frozen frozen k none = entry_by frozen k (entry frozen k) refl none

entry_other : (frozen : List Bool) (k number : ℕ) → (number ≡ k → ⊥) → entry (slice_set frozen k false) number ≡ entry frozen number
entry_other frozen k number apart = ap (λ (o : Option Bool). unwrap_or o false) (set_other frozen k number false apart)

entry_own : (frozen : List Bool) (k : ℕ) → entry (slice_set frozen k false) k ≡ false
entry_own [] k = refl
entry_own (f ∷ frozen) zero = refl
entry_own (f ∷ frozen) (suc k) = entry_own frozen k

lags_by : (c : ℕ) (decision : Ruling) (frozen more : List Bool) (number : ℕ) → entry more number ≡ entry frozen number → lags (Decided c decision more) number ≡ lags (Decided c decision frozen) number
lags_by c (Opened epoch) frozen more number same = same
lags_by c (ruling.Broken parts) frozen more number same = refl
lags_by c Nothing frozen more number same = refl

lags_none : (c : ℕ) (decision : Ruling) (frozen : List Bool) (number : ℕ) → entry frozen number ≡ false → lags (Decided c decision frozen) number ≡ false
lags_none c (Opened epoch) frozen number free = free
lags_none c (ruling.Broken parts) frozen number free = refl
lags_none c Nothing frozen number free = refl

-- who lags after the thaw: the others that did
still_other : (c : ℕ) (decision : Ruling) (frozen : List Bool) (k number : ℕ) → (number ≡ k → ⊥)
    → lags (still c decision (slice_set frozen k false)) number ≡ lags (Decided c decision frozen) number
still_other c decision frozen k number apart =
    if_cases (λ (course : Course). lags course number ≡ lags (Decided c decision frozen) number) (list_any (λ f. f) (slice_set frozen k false)) _ _
    (λ some. lags_by c decision frozen (slice_set frozen k false) number (entry_other frozen k number apart))
    (λ none. sym (lags_none c decision frozen number (sym (entry_other frozen k number apart) ∙ none_frozen (slice_set frozen k false) number none)))

still_own : (c : ℕ) (decision : Ruling) (frozen : List Bool) (k : ℕ) → lags (still c decision (slice_set frozen k false)) k ≡ false
still_own c decision frozen k =
    if_cases (λ (course : Course). lags course k ≡ false) (list_any (λ f. f) (slice_set frozen k false)) _ _
    (λ some. lags_none c decision (slice_set frozen k false) k (entry_own frozen k))
    (λ none. refl)

-- ---- the thaw
module _ (w : World) (k : ℕ) (replica : Replica) (at : IsAt w k replica) (kept : IsKept w) (c : ℕ) (frozen : List Bool) (waits : entry frozen k ≡ true) where
  -- the thawed replica has the last record
  thawed_last : (decision : Ruling) → w.course ≡ Decided c decision frozen → (adopted decision (k == c) replica).1.epoch.number + 1 ≡ length w.records
  thawed_last (Opened epoch) course_is =
      let P : Adoption × Replica → Type 0 = λ a. a.1.epoch.number + 1 ≡ length w.records in
      let last : epoch.number + 1 ≡ length w.records = (has_opened w k replica at kept c epoch frozen course_is waits).last in
      if_cases P (k == c) _ _ (λ own. moved_cases P replica epoch replica.wanted last (λ point. last)) (λ other. last)
  thawed_last (ruling.Broken parts) course_is =
      let P : Adoption × Replica → Type 0 = λ a. a.1.epoch.number + 1 ≡ length w.records in
      let last : replica.epoch.number + 1 ≡ length w.records = kept.at_last k replica at (ap (λ (course : Course). lags course k) course_is) in
      if_cases P (k == c) _ _ (λ own. refused_cases P replica parts replica.wanted last (λ point. last)) (λ other. last)
  thawed_last Nothing course_is = kept.at_last k replica at (ap (λ (course : Course). lags course k) course_is)

  -- the coordinator's reply tells that its call opened the record
  replied : (past epoch : Record) (by : By) → w.course ≡ Decided c (Opened epoch) frozen → IsOpening w.replicas past epoch by → (k ≡ c)
      → IsReplied (slice_set w.replicas k (adopted (Opened epoch) (k == c) replica).1) epoch by
  replied past epoch by course_is opening own =
      let opener = opener_of w k replica at kept c epoch frozen course_is waits own in
      let after : Replica = with_moved replica epoch opener.point in
      let is : (adopted (Opened epoch) (k == c) replica).1 ≡ after =
      ap (λ (b : Bool). (adopted (Opened epoch) b replica).1) (eq-eqb k c own) ∙ ap (λ (wanted : Option Tree). (moved replica epoch wanted).1) opener.wanted_is in
      let by_is : by ≡ next_by replica = same_Some by (next_by replica) (sym (ap (λ (e : Record). e.by) opening.after_is) ∙ opener.by_is) in
      let there : slice_get (slice_set w.replicas k after) replica.number ≡ Some after =
      ap (slice_get (slice_set w.replicas k after)) (kept.seated k replica at) ∙ set_at w.replicas k replica after at in
      let of : IsReplied (slice_set w.replicas k after) epoch (next_by replica) =
      record { opener = after; opener_at = there; point = opener.point; reply_is = last_at replica.replies (Moved epoch opener.point (next_id replica)) } in
      subst (λ (r : Replica). IsReplied (slice_set w.replicas k r) epoch by) (sym is) (subst (IsReplied (slice_set w.replicas k after) epoch) (sym by_is) of)

  module _ (adopts : AdoptKeeps) (decision : Ruling) (course_is : w.course ≡ Decided c decision frozen) where
    -- the replica and the course after the thaw
    abbrev after : Replica
    after = (adopted decision (k == c) replica).1

    abbrev more : List Bool
    more = slice_set frozen k false

    abbrev later : Course
    later = still c decision more

    thaw_change : IsChange w k replica after
    thaw_change = adopted_change w k replica at kept c frozen waits adopts decision course_is

    thaw_place : (number : ℕ) (other : Replica) → IsAt (with_both w k after later) number other → HasPlace w later number other
    thaw_place number other h =
        ⊎_elim
        (λ own. inl (
          ap (lags later) own.0 ∙ still_own c decision frozen k,
          ap (λ (r : Replica). r.epoch.number + 1) own.1 ∙ thawed_last decision course_is,
        ))
        (λ apart.
        let same : lags w.course number ≡ lags later number = ap (λ (course : Course). lags course number) course_is ∙ sym (still_other c decision frozen k number apart.0) in
        ⊎_elim (λ now. inl (sym same ∙ now.0, now.1)) (λ was. inr (sym same ∙ was.0, was.1)) (place_of w number other apart.1 kept))
        (set_cases_apart w.replicas k number after other h)

    still_on : (number : ℕ) → entry more number ≡ true → later ≡ Decided c decision more
    still_on number waiting =
        if_cases (λ (course : Course). course ≡ Decided c decision more) (list_any (λ f. f) more) _ _
        (λ some. refl)
        (λ none. absurd (let some = some_frozen more number waiting in let no : ⊥ = cc in no))

    due_by : (past epoch : Record) (by : By) → Decided c (Opened epoch) frozen ≡ Decided c decision frozen → Opened epoch ≡ decision → IsOpening w.replicas past epoch by
        → entry frozen c ≡ true → (own : Bool) → (k == c) ≡ own → IsReplied (slice_set w.replicas k after) epoch by ⊎ IsDue (with_both w k after later) epoch
    due_by past epoch by course_same same opening waiting true is =
        inl (subst (λ (d : Ruling). IsReplied (slice_set w.replicas k (adopted d (k == c) replica).1) epoch by) same (replied past epoch by (course_is ∙ sym course_same) opening (eqb-true k c is)))
    due_by past epoch by course_same same opening waiting false is =
        let here : entry more c ≡ true = entry_other frozen k c (λ e. eqb-false k c is (sym e)) ∙ waiting in
        inr (record { coordinator = c; frozen = more; course_is = still_on c here ∙ ap (λ (d : Ruling). Decided c d more) (sym same); waits = here })

    thaw_due : (past epoch : Record) (by : By) → IsOpening w.replicas past epoch by → IsDue w epoch → IsReplied (slice_set w.replicas k after) epoch by ⊎ IsDue (with_both w k after later) epoch
    thaw_due past epoch by opening due =
        let both : Decided due.coordinator (Opened epoch) due.frozen ≡ Decided c decision frozen = sym due.course_is ∙ course_is in
        let seat : due.coordinator ≡ c = cc in
        let same : Opened epoch ≡ decision = cc in
        let list : due.frozen ≡ frozen = cc in
        due_by past epoch by (ap (λ (d : Ruling). Decided c d frozen) same) same opening (ap (λ (f : List Bool). entry f c) (sym list) ∙ ap (entry due.frozen) (sym seat) ∙ due.waits) (k == c) refl

    thaw_waits : (other : Replica) → IsAt (with_both w k after later) c other → entry more c ≡ true → IsAt w c other × (entry frozen c ≡ true)
    thaw_waits other h waiting =
        ⊎_elim
        (λ own. absurd (let clash : entry more k ≡ true = ap (entry more) (sym own.0) ∙ waiting in let free = entry_own frozen k in let no : ⊥ = cc in no))
        (λ apart. (apart.1, sym (entry_other frozen k c apart.0) ∙ waiting))
        (set_cases_apart w.replicas k c after other h)

    thaw_follows : FollowsCourse (with_both w k after later) later
    thaw_follows =
        let was = subst (FollowsCourse w) course_is kept.follows in
        if_cases (FollowsCourse (with_both w k after later)) (list_any (λ f. f) more) _ _
        (λ some. (
          length-set frozen k false ∙ was.0 ∙ sym (length-set w.replicas k after),
          subst (λ (n : ℕ). c < n) (sym (length-set w.replicas k after)) was.1,
          decided_stays w k replica after later at kept thaw_change c frozen more thaw_waits decision was.2,
        ))
        (λ none. tt)

    pub thaw_kept : IsKept (with_both w k (adopted decision (k == c) replica).1 (still c decision (slice_set frozen k false)))
    thaw_kept = changed_kept w k replica after later at kept thaw_change thaw_place thaw_due thaw_follows
