-- What was decided suits each replica whose part is among the parts.
use Rattle.std.proofs.Common.{◌≡◌, ℕ, Bool, true, false, if◌then◌else◌, List, refl, sym, ap, ◌∙◌, subst}
use Rattle.std.specs.Prelude.{Option, Some, None, IfSome, length, slice_get}
use Rattle.std.proofs.lemmas.Option.{same_Some}
use Rattle.lucy_plan.specs.Calls.{Fits}
use Rattle.lucy_plan.specs.declared.parts.Call.{Call}
use Rattle.lucy_expr.specs.Trees.{Tree}
use Rattle.lucy_epochs.specs.declared.causes.By.{By}
use Rattle.lucy_epochs.specs.Records.{Record, next_opening}
use Rattle.lucy_epochs.specs.Contributions.{Contribution, IsMade, trees_of}
use Rattle.lucy_epochs.specs.Collections.{Collected, with_part}
use Rattle.lucy_epochs.specs.Laws.{NextRecordIsInSegment}
use Rattle.lucy_epochs.specs.Rulings.{Ruling, opens, rule, BreaksOn}
use Rattle.lucy_replica.specs.Replicas.{Replica}
use Rattle.lucy_replica.specs.Submitting.{next_call}
use Rattle.lucy_replica.specs.Changing.{contributed, next_by, wish, wish_of}
use Rattle.lucy_replica.specs.Suiting.{Suits}
use Rattle.lucy_replica.specs.Facts.{IsSettled}
use Rattle.lucy_cluster.specs.Changes.{IsDecided}
use Rattle.lucy_cluster.proofs.Seats.{set_at}

pub if_cases : {A : Type 0} (P : A → Type 0) (b : Bool) (x y : A) → (b ≡ true → P x) → (b ≡ false → P y) → P (if b then x else y)
if_cases P true x y f g = f refl
if_cases P false x y f g = g refl

-- what a replica wishes, where it wishes a change
record IsWish (replica : Replica) (wanted : Option Tree) (next : Option Call) (call : Call) (by : By) : Type 0 where
  point : Tree
  wanted_is : wanted ≡ Some point
  next_is : next ≡ Some call
  by_is : by ≡ next_by replica

wished : (replica : Replica) (wanted : Option Tree) (next : Option Call) (call : Call) (by : By) → Some (call, by) ≡ wish replica wanted next → IsWish replica wanted next call by
wished replica None next call by h = absurd (let no : ⊥ = cc in no)
wished replica (Some point) None call by h = absurd (let no : ⊥ = cc in no)
wished replica (Some point) (Some other) call by h =
    let same : (call, by) ≡ (other, next_by replica) = same_Some (call, by) (other, next_by replica) h in
    record { point = point; wanted_is = refl; next_is = ap (λ (p : Call × By). Some p.0) (sym same); by_is = ap (λ (p : Call × By). p.1) same }

module _ (in_segment : NextRecordIsInSegment) (replica : Replica) (settled : IsSettled replica) (parts : List Contribution)
    (own : slice_get parts replica.number ≡ Some (contributed replica))
    (seats : (place : ℕ) (part : Contribution) → slice_get parts place ≡ Some part → part.replica ≡ place)
    (of_one : (place : ℕ) (part : Contribution) → slice_get parts place ≡ Some part → part.epoch ≡ replica.epoch)
    (made : (place : ℕ) (part : Contribution) → slice_get parts place ≡ Some part → IsMade part.epoch part.state part.expression.tree) where
  on_call : (coordinator : Bool) (call : Call) (by : By) → (coordinator ≡ true → Some (call, by) ≡ wish_of replica) → Suits (rule replica.epoch parts (Some (call, by))) coordinator replica
  on_call coordinator call by mine =
      if_cases (λ (r : Ruling). Suits r coordinator replica) (opens replica.epoch parts call) _ _
      (λ whole. (
        record { number = refl; plan_is = refl; fits = in_segment replica.epoch (trees_of parts) call by (settled.sound.covered (next_opening replica.epoch (trees_of parts) call) whole) },
        λ is.
            let w = wished replica replica.wanted (next_call replica) call by (mine is) in
            record { point = w.point; wanted_is = w.wanted_is; by_is = ap (λ (b : By). Some b) w.by_is },
      ))
      (λ breaks is.
      let w = wished replica replica.wanted (next_call replica) call by (mine is) in
      record {
        point = w.point;
        wanted_is = w.wanted_is;
        own_is = own;
        of_one = of_one;
        seats = seats;
        made = made;
        breaks = λ other next. subst (λ (c : Call). BreaksOn replica.epoch parts c) (same_Some call other (sym w.next_is ∙ next)) breaks;
      })

  on_wanted : (coordinator : Bool) (wanted : Option (Call × By)) → (coordinator ≡ true → wanted ≡ wish_of replica) → Suits (rule replica.epoch parts wanted) coordinator replica
  on_wanted coordinator None mine = tt
  on_wanted coordinator (Some p) mine = on_call coordinator p.0 p.1 mine

-- ---- the call that is wanted fits
wish_fits : (replica : Replica) (wanted : Option Tree) (next : Option Call) → next_call replica ≡ next → IsSettled replica → IfSome (wish replica wanted next) (λ w. Fits replica.epoch.plan w.0)
wish_fits replica None next is settled = tt
wish_fits replica (Some point) None is settled = tt
wish_fits replica (Some point) (Some call) is settled = settled.fits (length replica.replies) call is

pub wanted_fits : (replica : Replica) (epoch : Record) (given wanted : Option (Call × By)) (own : Bool) → IsSettled replica → replica.epoch ≡ epoch → IfSome given (λ w. Fits epoch.plan w.0)
    → wanted ≡ (if own then wish_of replica else given) → IfSome wanted (λ w. Fits epoch.plan w.0)
wanted_fits replica epoch given wanted own settled same fits is =
    let P : Option (Call × By) → Type 0 = λ o. IfSome o (λ (w : Call × By). Fits epoch.plan w.0) in
    subst P (sym is)
    (if_cases P own (wish_of replica) given
    (λ mine. subst (λ (e : Record). IfSome (wish_of replica) (λ (w : Call × By). Fits e.plan w.0)) same (wish_fits replica replica.wanted (next_call replica) refl settled))
    (λ other. fits))

-- the ruling on parts among which is what a replica has suits it
pub decided_suits : NextRecordIsInSegment → (replica : Replica) (collected : Collected) (wanted : Option (Call × By)) (ruling : Ruling) (coordinator : Bool)
    → IsSettled replica → replica.epoch ≡ collected.epoch → slice_get collected.seats replica.number ≡ Some None
    → IsDecided (with_part collected (contributed replica)) wanted ruling → (coordinator ≡ true → wanted ≡ wish_of replica) → Suits ruling coordinator replica
decided_suits in_segment replica collected wanted ruling coordinator settled epoch_is free decided mine =
    subst (λ (r : Ruling). Suits r coordinator replica) (ap (λ (e : Record). rule e decided.parts wanted) epoch_is ∙ sym decided.ruling_is)
    (on_wanted in_segment replica settled decided.parts
    (decided.begins replica.number (contributed replica) (set_at collected.seats replica.number None (Some (contributed replica)) free))
    decided.seats
    (λ place part h. decided.of_one place part h ∙ sym epoch_is)
    decided.made
    coordinator wanted mine)
