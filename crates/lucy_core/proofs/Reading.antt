-- What a step reads and changes.
use Rattle.std.proofs.Common.{◌≡◌, ℕ, Bool, true, false, if◌then◌else◌, List, refl, sym, ap, ◌∙◌, subst}
use Rattle.std.specs.Prelude.{Option, Some, None, slice_get}
use Rattle.lucy_epochs.specs.Rulings.{Ruling}
use Rattle.lucy_replica.specs.Replicas.{Replica}
use Rattle.lucy_core.specs.Laws.{SubmitReadsItsReplica, SubmitChangesItsReplica, ThawChangesItsReplica, FrozenIsHeld}
use Rattle.lucy_replica.specs.Submitting.{submitted}
use Rattle.lucy_core.specs.Worlds.{World, Course, Freezing, Decided, entry, is_frozen}
use Rattle.lucy_core.specs.Worlds as course
use Rattle.lucy_replica.specs.declared.events.Event.{Event}
use Rattle.lucy_replica.specs.declared.events.Event.TheVariants.{Held}
use Rattle.lucy_core.specs.Steps.{submit_row, thaw_row, thaw_by}
use Rattle.lucy_core.proofs.Places.{set_at, set_other}
use Rattle.lucy_core.proofs.Rows.{if_cases}

-- what a guarded row answers, by what the guard found
guarded : World → Bool → Event × World → Event × World
guarded w frozen row = if frozen then (Held, w) else row

SameAt : ℕ → Event × World → Event × World → Type 0
SameAt number a b = (a.0 ≡ b.0) × (slice_get a.1.replicas number ≡ slice_get b.1.replicas number)

row_reads : (w v : World) (number : ℕ) (at : Option Replica) → slice_get w.replicas number ≡ at → slice_get v.replicas number ≡ at → SameAt number (submit_row w number at) (submit_row v number at)
unfolding SameAt
row_reads w v number None h g = (refl, h ∙ sym g)
row_reads w v number (Some replica) h g = (refl, set_at w.replicas number replica (submitted replica).1 h ∙ sym (set_at v.replicas number replica (submitted replica).1 g))

guard_reads : (w v : World) (number : ℕ) (frozen : Bool) → slice_get w.replicas number ≡ slice_get v.replicas number
    → SameAt number (guarded w frozen (submit_row w number (slice_get w.replicas number))) (guarded v frozen (submit_row v number (slice_get v.replicas number)))
unfolding SameAt guarded
guard_reads w v number true same = (refl, same)
guard_reads w v number false same =
    subst (λ (at : Option Replica). SameAt number (submit_row w number at) (submit_row v number (slice_get v.replicas number))) (sym same)
    (row_reads w v number (slice_get v.replicas number) same refl)

pub submit_reads : SubmitReadsItsReplica
unfolding SameAt guarded
submit_reads w v number same frozen =
    subst (λ (f : Bool). SameAt number (guarded w f (submit_row w number (slice_get w.replicas number))) (guarded v (is_frozen v.course number) (submit_row v number (slice_get v.replicas number)))) (sym frozen)
    (guard_reads w v number (is_frozen v.course number) same)

pub frozen_held : FrozenIsHeld
frozen_held w number frozen = ap (λ (b : Bool). if b then (Held, w) else submit_row w number (slice_get w.replicas number)) frozen

thawed_others : (w : World) (number other c : ℕ) (decision : Ruling) (frozen : List Bool) (replica : Option Replica) → (other ≡ number → ⊥)
    → slice_get (thaw_row w number c decision frozen replica).1.replicas other ≡ slice_get w.replicas other
thawed_others w number other c decision frozen None apart = refl
thawed_others w number other c decision frozen (Some replica) apart = set_other w.replicas number other _ apart

thaw_others : (w : World) (number other : ℕ) (how : Course) → (other ≡ number → ⊥) → slice_get (thaw_by w number how).1.replicas other ≡ slice_get w.replicas other
thaw_others w number other course.Idle apart = refl
thaw_others w number other (Freezing c frozen) apart = refl
thaw_others w number other (Decided c decision frozen) apart =
    if_cases (λ (a : Event × World). slice_get a.1.replicas other ≡ slice_get w.replicas other) (entry frozen number) _ _
    (λ waits. thawed_others w number other c decision frozen (slice_get w.replicas number) apart) (λ free. refl)

pub thaw_changes : ThawChangesItsReplica
thaw_changes w number other apart = thaw_others w number other w.course apart

row_changes : (w : World) (number other : ℕ) (replica : Option Replica) → (other ≡ number → ⊥)
    → (slice_get (submit_row w number replica).1.replicas other ≡ slice_get w.replicas other)
    × ((submit_row w number replica).1.packets ≡ w.packets) × ((submit_row w number replica).1.records ≡ w.records) × ((submit_row w number replica).1.course ≡ w.course)
row_changes w number other None apart = (refl, refl, refl, refl)
row_changes w number other (Some replica) apart = (set_other w.replicas number other (submitted replica).1 apart, refl, refl, refl)

pub submit_changes : SubmitChangesItsReplica
submit_changes w number other apart =
    if_cases (λ (a : Event × World). (slice_get a.1.replicas other ≡ slice_get w.replicas other) × (a.1.packets ≡ w.packets) × (a.1.records ≡ w.records) × (a.1.course ≡ w.course)) (is_frozen w.course number) _ _
    (λ held. (refl, refl, refl, refl)) (λ free. row_changes w number other (slice_get w.replicas number) apart)
