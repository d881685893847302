-- What the steps of a change answer.
use Rattle.std.proofs.Common.{◌≡◌, ◌==◌, ℕ, Bool, true, false, if◌then◌else◌, List, refl, sym, ap, ◌∙◌, subst}
use Rattle.std.specs.Prelude.{Option, Some, slice_get, slice_set}
use Rattle.std.proofs.lemmas.Bool.{eqb-true, eq-eqb}
use Rattle.lucy_expr.specs.Trees.{Tree}
use Rattle.lucy_epochs.specs.Records.{Record}
use Rattle.lucy_epochs.specs.Rulings.{Ruling, Opened, Nothing}
use Rattle.lucy_epochs.specs.Rulings as ruling
use Rattle.lucy_replica.specs.Replicas.{Replica}
use Rattle.lucy_replica.specs.declared.answers.Adoption.{Adoption}
use Rattle.lucy_replica.specs.Submitting.{next_id}
use Rattle.lucy_replica.specs.Changing.{moved, adopted}
use Rattle.lucy_core.specs.Laws.{FrozenExactly, MovedExactly}
use Rattle.lucy_core.specs.Worlds.{World, Course, Freezing, Decided, entry, IsAt}
use Rattle.lucy_core.specs.Worlds as course
use Rattle.lucy_replica.specs.declared.events.Event.{Event}
use Rattle.lucy_replica.specs.declared.events.Event.TheVariants.{Held, Frozen, Free, Moved}
use Rattle.lucy_core.specs.Steps.{with_course, adopt_event, freeze_by, thaw_row, thaw_by}
use Rattle.lucy_core.specs.Safety.{FollowsCourse}
use Rattle.lucy_core.proofs.Rows.{refused_cases}

-- the event of the one row or of the other
abbrev either : Bool → Event × World → Event × World → Event
either b x y = (let a : Event × World = if b then x else y in a).0

-- ---- a freeze
not_held : (w v : World) (free : Bool) → either free (Held, w) (Frozen, v) ≡ Frozen → free ≡ false
not_held w v true h = cc
not_held w v false h = refl

freezes : (w : World) (number : ℕ) (how : Course) → w.course ≡ how → (freeze_by w number how).0 ≡ Frozen
    → (c : ℕ) × (frozen : List Bool) × (w.course ≡ Freezing c frozen) × (entry frozen number ≡ false)
freezes w number course.Idle is h = cc
freezes w number (Freezing c frozen) is h = (c, frozen, is, not_held w (with_course w (Freezing c (slice_set frozen number true))) (entry frozen number) h)
freezes w number (Decided c decision frozen) is h = cc

pub frozen_exactly : FrozenExactly
frozen_exactly w number = (
  freezes w number w.course refl,
  λ h.
      let v : World = with_course w (Freezing h.0 (slice_set h.1 number true)) in
      ap (λ (how : Course). (freeze_by w number how).0) h.2 ∙ ap (λ (free : Bool). let a : Event × World = if free then (Held, w) else (Frozen, v) in a.0) h.3,
)

-- ---- a thaw
-- the event of an adoption is `Moved` only for the coordinator of an opened record
moves_by : (decision : Ruling) (coordinator : Bool) (replica : Replica) → adopt_event (adopted decision coordinator replica).0 ≡ Moved (next_id replica)
    → (epoch : Record) × (decision ≡ Opened epoch) × (coordinator ≡ true)
moves_by (Opened epoch) true replica h = (epoch, refl, refl)
moves_by (Opened epoch) false replica h = cc
moves_by (ruling.Broken parts) true replica h = absurd (refused_cases (λ (a : Adoption × Replica). adopt_event a.0 ≡ Moved (next_id replica) → ⊥) replica parts replica.wanted (λ e. cc) (λ point e. cc) h)
moves_by (ruling.Broken parts) false replica h = cc
moves_by Nothing coordinator replica h = cc

not_free : (w : World) (row : Event × World) (waits : Bool) (replica : Replica) → either waits row (Free, w) ≡ Moved (next_id replica) → (waits ≡ true) × (row.0 ≡ Moved (next_id replica))
not_free w row true replica h = (refl, h)
not_free w row false replica h = cc

moves : (w : World) (number : ℕ) (replica : Replica) (how : Course) → slice_get w.replicas number ≡ Some replica → w.course ≡ how → (thaw_by w number how).0 ≡ Moved (next_id replica)
    → (epoch : Record) × (frozen : List Bool) × (w.course ≡ Decided number (Opened epoch) frozen) × (entry frozen number ≡ true)
moves w number replica course.Idle at is h = cc
moves w number replica (Freezing c frozen) at is h = cc
moves w number replica (Decided c decision frozen) at is h =
    let row = not_free w (thaw_row w number c decision frozen (slice_get w.replicas number)) (entry frozen number) replica h in
    let said = moves_by decision (number == c) replica (ap (λ (r : Option Replica). (thaw_row w number c decision frozen r).0) (sym at) ∙ row.1) in
    let seat : number ≡ c = eqb-true number c said.2 in
    (said.0, frozen, is ∙ ap (λ (n : ℕ). Decided n decision frozen) (sym seat) ∙ ap (λ (d : Ruling). Decided number d frozen) said.1, row.0)

pub moved_exactly : MovedExactly
moved_exactly w number replica facts at = (
  moves w number replica w.course at refl,
  λ h.
      let epoch : Record = h.0 in
      let frozen : List Bool = h.1 in
      let want = (subst (FollowsCourse w) h.2 facts.follows).2.wants replica at h.3 in
      ap (λ (how : Course). (thaw_by w number how).0) h.2
      ∙ ap (λ (waits : Bool). let a : Event × World = if waits then thaw_row w number number (Opened epoch) frozen (slice_get w.replicas number) else (Free, w) in a.0) h.3
      ∙ ap (λ (r : Option Replica). (thaw_row w number number (Opened epoch) frozen r).0) at
      ∙ ap (λ (own : Bool). adopt_event (adopted (Opened epoch) own replica).0) (eq-eqb number number refl)
      ∙ ap (λ (wanted : Option Tree). adopt_event (moved replica epoch wanted).0) want.1,
)
