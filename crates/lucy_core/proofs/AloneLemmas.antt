-- One thread alone comes to an end at which no change is on and each call has a reply.
use Rattle.std.proofs.Common.{◌≡◌, ◌<◌, ◌≤◌, ◌+◌, ◌⊎◌, ◌++◌, ◌==◌, ℕ, zero, suc, Bool, true, false, if◌then◌else◌, List, [], ◌∷◌, length, map, replicate, refl, sym, ap, ◌∙◌, subst, inl, inr, ⊎_elim, arith}
use Rattle.std.specs.Prelude.{Option, Some, None, slice_get, slice_set}
use Rattle.std.specs.List.{list_all, list_any}
use Rattle.std.proofs.lemmas.List.{length-append}
use Rattle.std.proofs.lemmas.Bool.{eqb-true, eq-eqb}
use Rattle.std.proofs.lemmas.Option.{same_Some, slice_get_within}
use Rattle.lucy_plan.specs.declared.parts.Call.{Call}
use Rattle.lucy_expr.specs.Trees.{Tree}
use Rattle.lucy_epochs.specs.declared.causes.By.{By}
use Rattle.lucy_epochs.specs.Records.{Record, first_record, next_record}
use Rattle.lucy_epochs.specs.Contributions.{Contribution, trees_of}
use Rattle.lucy_epochs.specs.Rulings.{Ruling, Opened, Nothing, opens, rule}
use Rattle.lucy_epochs.specs.Rulings as ruling
use Rattle.lucy_calls.specs.declared.steps.Step.{Step}
use Rattle.lucy_calls.specs.declared.steps.Step.TheVariants.{Submit, Begin, Freeze, OpenEpoch, Thaw}
use Rattle.lucy_replica.specs.Replicas.{Answer, Replica, newcomer}
use Rattle.lucy_replica.specs.Replicas as reply
use Rattle.lucy_replica.specs.Changing.{contributed, next_by, adopted, moved, refused, wish, wish_of}
use Rattle.lucy_replica.specs.Submitting.{next_call, next_id, breaks, is_inside, with_broken, with_done, with_wanted, tried}
use Rattle.lucy_replica.specs.Legal.{IsLegal}
use Rattle.lucy_replica.specs.declared.answers.Submitted.{Submitted}
use Rattle.lucy_replica.specs.declared.events.Event.{Event}
use Rattle.lucy_replica.specs.declared.events.Event.TheVariants.{Held}
use Rattle.lucy_core.specs.Worlds.{World, Course, Idle, Freezing, Decided, entry, is_frozen, IsAt, newcomers, opening_world}
use Rattle.lucy_core.specs.Steps.{step_of, world_after, with_course, with_replica, submit_event, submit_row, wanted_by, begin_row, begin_by, freeze_by, all_frozen, decided, ruling_of, records_with, open_row, open_by, still, thaw_row, thaw_by}
use Rattle.lucy_core.specs.Alone.{freezes, thaws, whole_change, is_wanting, after_call, after_calls, after_lists}
use Rattle.lucy_core.specs.Laws.{RunOutcomeIsLegal, AloneIsLegal}
use Rattle.lucy_core.proofs.Places.{set_at, set_other}
use Rattle.lucy_core.proofs.Rows.{if_cases}
use Rattle.lucy_core.proofs.RunLemmas.{runs_join, adopted_itself}
use Rattle.lucy_core.proofs.Starting.{newcomers_many}

-- ---- entries of so many replicas
abbrev mixed : ℕ → ℕ → List Bool
mixed done left = replicate done true ++ replicate left false

entry_front : (done left : ℕ) → 0 < left → entry (mixed done left) done ≡ false
entry_front zero zero below = absurd (omega (arith, below))
entry_front zero (suc left) below = refl
entry_front (suc done) left below = entry_front done left below

entry_back : (done left : ℕ) → entry (mixed (suc done) left) done ≡ true
entry_back zero left = refl
entry_back (suc done) left = entry_back done left

one_more_done : (done left : ℕ) → slice_set (mixed done (suc left)) done true ≡ mixed (suc done) left
one_more_done zero left = refl
one_more_done (suc done) left = ap (λ (xs : List Bool). true ∷ xs) (one_more_done done left)

one_less_done : (done left : ℕ) → slice_set (mixed (suc done) left) done false ≡ mixed done (suc left)
one_less_done zero left = refl
one_less_done (suc done) left = ap (λ (xs : List Bool). true ∷ xs) (one_less_done done left)

all_mixed : (n : ℕ) → all_frozen (mixed n 0) ≡ true
all_mixed zero = refl
all_mixed (suc n) = all_mixed n

none_mixed : (left : ℕ) → list_any (λ (f : Bool). f) (mixed 0 left) ≡ false
none_mixed zero = refl
none_mixed (suc left) = none_mixed left

none_frozen : {X : Type 0} (xs : List X) → map (λ (x : X). false) xs ≡ mixed 0 (length xs)
none_frozen [] = refl
none_frozen (x ∷ xs) = ap (λ (fs : List Bool). false ∷ fs) (none_frozen xs)

-- ---- all are frozen
freeze_all : (w : World) (c done left : ℕ) → w.course ≡ Freezing c (mixed done left) → world_after w (freezes done left) ≡ with_course w (Freezing c (mixed (done + left) 0))
freeze_all w c done zero is =
    let same : done + 0 ≡ done = omega arith in
    ap (λ (course : Course). with_course w course) (is ∙ ap (λ (n : ℕ). Freezing c (mixed n 0)) (sym same))
freeze_all w c done (suc left) is =
    let step : (step_of w (Freeze done)).1 ≡ with_course w (Freezing c (mixed (suc done) left)) =
    ap (λ (course : Course). (freeze_by w done course).1) is
    ∙ if_cases {A = Event × World} (λ a. a.1 ≡ with_course w (Freezing c (mixed (suc done) left))) (entry (mixed done (suc left)) done) _ _
    (λ held. absurd (let clash : true ≡ false = sym held ∙ entry_front done (suc left) (omega arith) in cc))
    (λ free. ap (λ (frozen : List Bool). with_course w (Freezing c frozen)) (one_more_done done left)) in
    let next : done + 1 ≡ suc done = omega arith in
    let sum : suc done + left ≡ done + suc left = omega arith in
    ap (λ (n : ℕ). world_after (step_of w (Freeze done)).1 (freezes n left)) next
    ∙ ap (λ (v : World). world_after v (freezes (suc done) left)) step
    ∙ freeze_all (with_course w (Freezing c (mixed (suc done) left))) c (suc done) left refl
    ∙ ap (λ (n : ℕ). with_course w (Freezing c (mixed n 0))) sum

-- ---- the change is decided
-- a ruling on a call that is wanted
opens_all : (w : World) (c : ℕ) (replica : Replica) (n : ℕ) → w.course ≡ Freezing c (mixed n 0) → IsAt w c replica
    → (step_of w OpenEpoch).1 ≡ (decided w c (mixed n 0) (ruling_of w.replicas replica)).1
opens_all w c replica n is at =
    ap (λ (course : Course). (open_by w course).1) is
    ∙ if_cases {A = Event × World} (λ a. a.1 ≡ (decided w c (mixed n 0) (ruling_of w.replicas replica)).1) (all_frozen (mixed n 0)) _ _
    (λ all. ap (λ (found : Option Replica). (open_row w c (mixed n 0) found).1) at)
    (λ some. absurd (let clash : true ≡ false = sym (all_mixed n) ∙ some in cc))

-- ---- all are thawed
-- what a replica is after the thaws of those below a number
record IsThawed (ruling : Ruling) (c number : ℕ) (w v : World) : Type 0 where
  idle : v.course ≡ Idle
  many : length v.replicas ≡ length w.replicas
  acted : (k : ℕ) (before : Replica) → IsAt w k before → k < number → IsAt v k (adopted ruling (k == c) before).1
  others : (k : ℕ) → number ≤ k → slice_get v.replicas k ≡ slice_get w.replicas k

set_length : {X : Type 0} (xs : List X) (i : ℕ) (y : X) → length (slice_set xs i y) ≡ length xs
set_length [] i y = refl
set_length (x ∷ xs) zero y = refl
set_length (x ∷ xs) (suc i) y = let rest = set_length xs i y in omega (arith, rest)

abbrev thawed_world : World → ℕ → ℕ → Ruling → ℕ → Replica → World
thawed_world w done c ruling left replica = record w { replicas = slice_set w.replicas done (adopted ruling (done == c) replica).1; course = still c ruling (mixed done (suc left)) }

thaw_step : (w : World) (c : ℕ) (ruling : Ruling) (done left : ℕ) (replica : Replica) → w.course ≡ Decided c ruling (mixed (suc done) left) → IsAt w done replica
    → (step_of w (Thaw done)).1 ≡ thawed_world w done c ruling left replica
thaw_step w c ruling done left replica is at =
    let frozen = mixed (suc done) left in
    ap (λ (course : Course). (thaw_by w done course).1) is
    ∙ if_cases {A = Event × World} (λ a. a.1 ≡ thawed_world w done c ruling left replica) (entry frozen done) _ _
    (λ waits. ap (λ (found : Option Replica). (thaw_row w done c ruling frozen found).1) at
    ∙ ap (λ (fs : List Bool). let v : World = record w { replicas = slice_set w.replicas done (adopted ruling (done == c) replica).1; course = still c ruling fs } in v) (one_less_done done left))
    (λ free. absurd (let clash : true ≡ false = sym (entry_back done left) ∙ free in cc))

exists_at : {X : Type 0} (xs : List X) (k : ℕ) → k < length xs → (x : X) × (slice_get xs k ≡ Some x)
exists_at [] k below = absurd (omega (arith, below))
exists_at (x ∷ xs) zero below = (x, refl)
exists_at (x ∷ xs) (suc k) below = exists_at xs k (omega (arith, below))

split : (m n : ℕ) → (m ≡ n) ⊎ (m ≡ n → ⊥)
split zero zero = inl refl
split zero (suc n) = inr (λ e. omega (arith, e))
split (suc m) zero = inr (λ e. omega (arith, e))
split (suc m) (suc n) = ⊎_elim (λ e. inl (ap suc e)) (λ ne. inr (λ e. ne (let same : m ≡ n = omega (arith, e) in same))) (split m n)

less : (m n : ℕ) → m < suc n → (m ≡ n → ⊥) → m < n
less zero zero below ne = absurd (ne refl)
less zero (suc n) below ne = omega arith
less (suc m) zero below ne = absurd (omega (arith, below))
less (suc m) (suc n) below ne = let rest = less m n (omega (arith, below)) (λ e. ne (ap suc e)) in omega (arith, rest)

-- one thaw more, the rest being thawed after it
one_thawed : (w : World) (c : ℕ) (ruling : Ruling) (done left : ℕ) (replica : Replica) (v : World) → IsAt w done replica → IsThawed ruling c done (thawed_world w done c ruling left replica) v
    → IsThawed ruling c (suc done) w v
one_thawed w c ruling done left replica v at rest =
    let next : Replica = (adopted ruling (done == c) replica).1 in
    record {
      idle = rest.idle;
      many = rest.many ∙ set_length w.replicas done next;
      acted = λ k before here below. ⊎_elim
          (λ own.
          let same : replica ≡ before = same_Some replica before (sym at ∙ ap (slice_get w.replicas) (sym own) ∙ here) in
          let kept : slice_get v.replicas done ≡ Some next = rest.others done (omega arith) ∙ set_at w.replicas done replica next at in
          ap (slice_get v.replicas) own ∙ kept ∙ ap (λ (r : Replica). Some (adopted ruling (done == c) r).1) same ∙ ap (λ (n : ℕ). Some (adopted ruling (n == c) before).1) (sym own))
          (λ apart. rest.acted k before (set_other w.replicas done k next apart ∙ here) (less k done below apart))
          (split k done);
      others = λ k from. rest.others k (omega (arith, from)) ∙ set_other w.replicas done k next (λ e. omega (arith, e, from));
    }

none_thawed : (w : World) (c : ℕ) (ruling : Ruling) → w.course ≡ Idle → IsThawed ruling c 0 w w
none_thawed w c ruling idle = record { idle = idle; many = refl; acted = λ k before here below. absurd (omega (arith, below)); others = λ k from. refl }

thaw_all : (w : World) (c : ℕ) (ruling : Ruling) (done left : ℕ) → w.course ≡ Decided c ruling (mixed (suc done) left) → suc done ≤ length w.replicas
    → IsThawed ruling c (suc done) w (world_after w (thaws (suc done)))
thaw_all w c ruling zero left is within =
    let found = exists_at w.replicas 0 within in
    let v = thawed_world w 0 c ruling left found.0 in
    let step = thaw_step w c ruling 0 left found.0 is found.1 in
    let idle : v.course ≡ Idle = ap (λ (b : Bool). let course : Course = if b then Decided c ruling (mixed 0 (suc left)) else Idle in course) (none_mixed (suc left)) in
    subst (IsThawed ruling c 1 w) (sym step) (one_thawed w c ruling 0 left found.0 v found.1 (none_thawed v c ruling idle))
thaw_all w c ruling (suc done) left is within =
    let found = exists_at w.replicas (suc done) (omega (arith, within)) in
    let v = thawed_world w (suc done) c ruling left found.0 in
    let step = thaw_step w c ruling (suc done) left found.0 is found.1 in
    let rest = thaw_all v c ruling done (suc left) refl (let many = set_length w.replicas (suc done) (adopted ruling (suc done == c) found.0).1 in omega (arith, within, many)) in
    subst (λ (u : World). IsThawed ruling c (suc (suc done)) w (world_after u (thaws (suc done)))) (sym step)
    (one_thawed w c ruling (suc done) left found.0 (world_after v (thaws (suc done))) found.1 rest)

-- ---- replies
other_replies : (ruling : Ruling) (replica : Replica) → (adopted ruling false replica).1.replies ≡ replica.replies
other_replies (Opened epoch) replica = refl
other_replies (ruling.Broken parts) replica = refl
other_replies Nothing replica = refl

own_replies : (replica : Replica) (parts : List Contribution) (call : Call) (by : By) (point : Tree) → replica.wanted ≡ Some point
    → length (adopted (rule replica.epoch parts (Some (call, by))) true replica).1.replies ≡ length replica.replies + 1
own_replies replica parts call by point wanted =
    if_cases (λ (r : Ruling). length (adopted r true replica).1.replies ≡ length replica.replies + 1) (opens replica.epoch parts call) _ _
    (λ whole.
    let epoch : Record = next_record replica.epoch (trees_of parts) call by in
    ap (λ (w : Option Tree). length (moved replica epoch w).1.replies) wanted ∙ length-append replica.replies (reply.Moved epoch point (next_id replica) ∷ []))
    (λ breaks. ap (λ (w : Option Tree). length (refused replica parts w).1.replies) wanted ∙ length-append replica.replies (reply.Refused point parts ∷ []))

-- ---- a whole change
record IsChanged (w : World) (c : ℕ) (replica : Replica) (v : World) : Type 0 where
  opened : World
  replicas_are : opened.replicas ≡ w.replicas
  thawed : IsThawed (ruling_of w.replicas replica) c (length w.replicas) opened v

change_from : (w : World) (c : ℕ) (replica : Replica) (point : Tree) (n : ℕ) → length w.replicas ≡ n → w.course ≡ Idle → IsAt w c replica → replica.wanted ≡ Some point
    → IsChanged w c replica (world_after w (whole_change n c))
change_from w c replica point zero many idle at wanted = absurd (let below = slice_get_within w.replicas c replica at in omega (arith, below, many))
change_from w c replica point (suc m) many idle at wanted =
    let decision = ruling_of w.replicas replica in
    let begun : World = with_course w (Freezing c (mixed 0 (suc m))) in
    let frozen : World = with_course w (Freezing c (mixed (suc m) 0)) in
    let opened : World = record w { records = records_with w.records decision; course = Decided c decision (mixed (suc m) 0) } in
    let begin_step : (step_of w (Begin c)).1 ≡ begun =
    ap (λ (course : Course). (begin_by w c course).1) idle
    ∙ ap (λ (found : Option Replica). (begin_row w c (wanted_by found)).1) at
    ∙ ap (λ (wish : Option Tree). (begin_row w c wish).1) wanted
    ∙ ap (λ (entries : List Bool). with_course w (Freezing c entries)) (none_frozen w.replicas ∙ ap (mixed 0) many) in
    let first : world_after w (whole_change (suc m) c) ≡ world_after begun (freezes 0 (suc m) ++ OpenEpoch ∷ thaws (suc m)) =
    ap (λ (v : World). world_after v (freezes 0 (suc m) ++ OpenEpoch ∷ thaws (suc m))) begin_step in
    let second : world_after begun (freezes 0 (suc m) ++ OpenEpoch ∷ thaws (suc m)) ≡ world_after (world_after begun (freezes 0 (suc m))) (OpenEpoch ∷ thaws (suc m)) =
    (runs_join begun (freezes 0 (suc m)) (OpenEpoch ∷ thaws (suc m))).1 in
    let sum : 0 + suc m ≡ suc m = omega arith in
    let third : world_after begun (freezes 0 (suc m)) ≡ frozen = freeze_all begun c 0 (suc m) refl ∙ ap (λ (n : ℕ). with_course w (Freezing c (mixed n 0))) sum in
    let fourth : (step_of frozen OpenEpoch).1 ≡ opened = opens_all frozen c replica (suc m) refl at in
    let all : world_after w (whole_change (suc m) c) ≡ world_after opened (thaws (suc m)) =
    first ∙ second ∙ ap (λ (v : World). world_after v (OpenEpoch ∷ thaws (suc m))) third ∙ ap (λ (v : World). world_after v (thaws (suc m))) fourth in
    let done : IsThawed decision c (suc m) opened (world_after opened (thaws (suc m))) = thaw_all opened c decision m 0 refl (omega (arith, many)) in
    record {
      opened = opened;
      replicas_are = refl;
      thawed = subst (λ (n : ℕ). IsThawed decision c n opened (world_after w (whole_change (suc m) c))) (sym many)
          (subst (λ (v : World). IsThawed decision c (suc m) opened v) (sym all) done);
    }

-- ---- the next call of a replica
-- the replica has one reply more, and all others have as many as before; no change is on
pub record IsAnswered (w v : World) (number : ℕ) : Type 0 where
  pub idle : v.course ≡ Idle
  pub many : length v.replicas ≡ length w.replicas
  pub own : (before : Replica) → IsAt w number before → (after : Replica) × IsAt v number after × (length after.replies ≡ length before.replies + 1) × (after.calls ≡ before.calls)
  pub others : (k : ℕ) (before : Replica) → (k ≡ number → ⊥) → IsAt w k before → (after : Replica) × IsAt v k after × (length after.replies ≡ length before.replies) × (after.calls ≡ before.calls)

not_equal : (m n : ℕ) → (m ≡ n → ⊥) → (m == n) ≡ false
not_equal m n ne = by (m == n) refl
  where
    by : (b : Bool) → (m == n) ≡ b → (m == n) ≡ false
    by false e = e
    by true e = absurd (ne (eqb-true m n e))

-- after a submit by which nobody wants a change
free_answered : (w : World) (number : ℕ) (replica next : Replica) → w.course ≡ Idle → IsAt w number replica → length next.replies ≡ length replica.replies + 1 → next.calls ≡ replica.calls
    → IsAnswered w (with_replica w number next) number
free_answered w number replica next idle at longer calls = record {
  idle = idle;
  many = set_length w.replicas number next;
  own = λ before here.
      let same = same_Some replica before (sym at ∙ here) in
      (next, set_at w.replicas number replica next at, longer ∙ ap (λ (r : Replica). length r.replies + 1) same, calls ∙ ap (λ (r : Replica). r.calls) same);
  others = λ k before apart here. (before, set_other w.replicas number k next apart ∙ here, refl, refl);
}

-- after a change that the replica wanted
changed_answered : (w u v : World) (number : ℕ) (replica wanting : Replica) (call : Call) (point : Tree) → u.replicas ≡ slice_set w.replicas number wanting → IsAt w number replica
    → wanting.replies ≡ replica.replies → wanting.calls ≡ replica.calls → wanting.wanted ≡ Some point → next_call wanting ≡ Some call → IsChanged u number wanting v → IsAnswered w v number
changed_answered w u v number replica wanting call point us at same same_calls wanted next changed =
    let decision = ruling_of u.replicas wanting in
    let t = changed.thawed in
    let count : length u.replicas ≡ length w.replicas = ap length us ∙ set_length w.replicas number wanting in
    let inner : (k : ℕ) (before : Replica) → IsAt u k before → IsAt v k (adopted decision (k == number) before).1 =
    λ k before here. t.acted k before (ap (λ (rs : List Replica). slice_get rs k) changed.replicas_are ∙ here) (slice_get_within u.replicas k before here) in
    record {
      idle = t.idle;
      many = t.many ∙ ap length changed.replicas_are ∙ count;
      own = λ before here.
          let there : IsAt u number wanting = ap (λ (rs : List Replica). slice_get rs number) us ∙ set_at w.replicas number replica wanting at in
          let by : By = next_by wanting in
          let wish_is : wish_of wanting ≡ Some (call, by) = ap (λ (p : Option Tree). wish wanting p (next_call wanting)) wanted ∙ ap (λ (c : Option Call). wish wanting (Some point) c) next in
          let parts = map contributed u.replicas in
          let ruling_is : decision ≡ rule wanting.epoch parts (Some (call, by)) = ap (rule wanting.epoch parts) wish_is in
          let long : length (adopted decision true wanting).1.replies ≡ length wanting.replies + 1 =
          ap (λ (r : Ruling). length (adopted r true wanting).1.replies) ruling_is ∙ own_replies wanting parts call by point wanted in (
            (adopted decision (number == number) wanting).1,
            inner number wanting there,
            ap (λ (b : Bool). length (adopted decision b wanting).1.replies) (eq-eqb number number refl) ∙ long ∙ ap (λ (answers : List Answer). length answers + 1) same
                ∙ ap (λ (r : Replica). length r.replies + 1) (same_Some replica before (sym at ∙ here)),
            (adopted_itself decision (number == number) wanting).1 ∙ same_calls ∙ ap (λ (r : Replica). r.calls) (same_Some replica before (sym at ∙ here)),
          );
      others = λ k before apart here.
          let there : IsAt u k before = ap (λ (rs : List Replica). slice_get rs k) us ∙ set_other w.replicas number k wanting apart ∙ here in (
            (adopted decision (k == number) before).1,
            inner k before there,
            ap (λ (b : Bool). length (adopted decision b before).1.replies) (not_equal k number apart) ∙ ap length (other_replies decision before),
            (adopted_itself decision (k == number) before).1,
          );
    }

-- ---- one call
submit_is : (w : World) (number : ℕ) (replica : Replica) (call : Call) → w.course ≡ Idle → IsAt w number replica → next_call replica ≡ Some call
    → step_of w (Submit number) ≡ (submit_event (tried replica (Some call)).0, with_replica w number (tried replica (Some call)).1)
submit_is w number replica call idle at next =
    ap (λ (course : Course). let a : Event × World = if is_frozen course number then (Held, w) else submit_row w number (slice_get w.replicas number) in a) idle
    ∙ ap (submit_row w number) at
    ∙ ap (λ (c : Option Call). let a : Event × World = (submit_event (tried replica c).0, with_replica w number (tried replica c).1) in a) next

pub call_answered : (w : World) (number : ℕ) (replica : Replica) (call : Call) → w.course ≡ Idle → IsAt w number replica → next_call replica ≡ Some call → IsAnswered w (after_call w number) number
call_answered w number replica call idle at next =
    let P : Submitted × Replica → Type 0 =
    λ a. IsAnswered w (if is_wanting (submit_event a.0) then world_after (with_replica w number a.1) (whole_change (length w.replicas) number) else with_replica w number a.1) number in
    let one : (answers : List Answer) (x : Answer) → length (answers ++ x ∷ []) ≡ length answers + 1 = λ answers x. length-append answers (x ∷ []) in
    let tried_answered : P (tried replica (Some call)) =
    if_cases P (breaks replica.epoch replica.expression.tree call) _ _
    (λ b. free_answered w number replica (with_broken replica) idle at (one replica.replies (reply.Broken replica.epoch replica.expression.tree)) refl)
    (λ b. if_cases P (is_inside replica.epoch replica.expression.tree call) _ _
    (λ i. free_answered w number replica (with_done replica call) idle at (one replica.replies (reply.Done replica.epoch (next_id replica))) refl)
    (λ i.
    let wanting = with_wanted replica in
    let u : World = with_replica w number wanting in
    changed_answered w u (world_after u (whole_change (length w.replicas) number)) number replica wanting call replica.expression.tree refl at refl refl refl next
    (change_from u number wanting replica.expression.tree (length w.replicas) (set_length w.replicas number wanting) idle (set_at w.replicas number replica wanting at) refl))) in
    subst (λ (a : Event × World). IsAnswered w (if is_wanting a.0 then world_after a.1 (whole_change (length w.replicas) number) else a.1) number) (sym (submit_is w number replica call idle at next)) tried_answered

-- ---- a world is that after a list of steps
record IsRun (w v : World) : Type 0 where
  steps : List Step
  is : v ≡ world_after w steps

no_steps : (w : World) → IsRun w w
no_steps w = record { steps = []; is = refl }

more_steps : (w v u : World) → IsRun w v → IsRun v u → IsRun w u
more_steps w v u first second = record {
  steps = first.steps ++ second.steps;
  is = second.is ∙ ap (λ (x : World). world_after x second.steps) first.is ∙ sym (runs_join w first.steps second.steps).1;
}

call_run : (w : World) (number : ℕ) → IsRun w (after_call w number)
call_run w number =
    if_cases (λ v. IsRun w v) (is_wanting (step_of w (Submit number)).0) _ _
    (λ wants. record { steps = Submit number ∷ whole_change (length w.replicas) number; is = refl })
    (λ free. record { steps = Submit number ∷ []; is = refl })

-- ---- all calls of one replica
record AreAnswered (w v : World) (number : ℕ) : Type 0 where
  run : IsRun w v
  idle : v.course ≡ Idle
  many : length v.replicas ≡ length w.replicas
  own : (before : Replica) → IsAt w number before → (after : Replica) × IsAt v number after × (length after.replies ≡ length after.calls)
  others : (k : ℕ) (before : Replica) → (k ≡ number → ⊥) → IsAt w k before → (after : Replica) × IsAt v k after × (length after.replies ≡ length before.replies) × (after.calls ≡ before.calls)

calls_answered : (count : ℕ) (w : World) (number : ℕ) (replica : Replica) → w.course ≡ Idle → IsAt w number replica → length replica.replies + count ≡ length replica.calls
    → AreAnswered w (after_calls count w number) number
calls_answered zero w number replica idle at left = record {
  run = no_steps w;
  idle = idle;
  many = refl;
  own = λ before here. (
    before,
    here,
    let same : length replica.replies ≡ length replica.calls = omega (arith, left) in
        subst (λ (r : Replica). length r.replies ≡ length r.calls) (same_Some replica before (sym at ∙ here)) same,
  );
  others = λ k before apart here. (before, here, refl, refl);
}
calls_answered (suc count) w number replica idle at left =
    let call = exists_at replica.calls (length replica.replies) (omega (arith, left)) in
    let one = call_answered w number replica call.0 idle at call.1 in
    let next = one.own replica at in
    let rest = calls_answered count (after_call w number) number next.0 one.idle next.1
    (let same = ap length next.3 in let longer = next.2 in omega (arith, left, same, longer)) in
    record {
      run = more_steps w (after_call w number) (after_calls count (after_call w number) number) (call_run w number) rest.run;
      idle = rest.idle;
      many = rest.many ∙ one.many;
      own = λ before here. rest.own next.0 next.1;
      others = λ k before apart here.
          let mid = one.others k before apart here in
          let end = rest.others k mid.0 apart mid.1 in
          (end.0, end.1, end.2 ∙ mid.2, end.3 ∙ mid.3);
    }

-- ---- all calls of all replicas
record AreDone (w v : World) : Type 0 where
  run : IsRun w v
  idle : v.course ≡ Idle
  all : (k : ℕ) (replica : Replica) → IsAt v k replica → length replica.replies ≡ length replica.calls

lists_done : (work : List (List Call)) (w : World) (number : ℕ) → w.course ≡ Idle → length w.replicas ≡ number + length work
    → ((k : ℕ) (replica : Replica) → k < number → IsAt w k replica → length replica.replies ≡ length replica.calls)
    → ((k : ℕ) (calls : List Call) → slice_get work k ≡ Some calls → (replica : Replica) × IsAt w (number + k) replica × (length replica.replies ≡ 0) × (length replica.calls ≡ length calls))
    → AreDone w (after_lists work w number)
lists_done [] w number idle many before after = record {
  run = no_steps w;
  idle = idle;
  all = λ k replica at. before k replica (let below = slice_get_within w.replicas k replica at in omega (arith, below, many)) at;
}
lists_done (calls ∷ work) w number idle many before after =
    let first = after 0 calls refl in
    let here : IsAt w number first.0 = (let same : number ≡ number + 0 = omega arith in ap (slice_get w.replicas) same) ∙ first.1 in
    let answered = calls_answered (length calls) w number first.0 idle here (let none = first.2 in let full = first.3 in omega (arith, none, full)) in
    let v = after_calls (length calls) w number in
    let own = answered.own first.0 here in
    let rest = lists_done work v (number + 1) answered.idle (let count = answered.many in omega (arith, many, count))
    (λ k replica below at. ⊎_elim
    (λ e.
    let same : own.0 ≡ replica = same_Some own.0 replica (sym own.1 ∙ ap (slice_get v.replicas) (sym e) ∙ at) in
    subst (λ (r : Replica). length r.replies ≡ length r.calls) same own.2)
    (λ ne.
    let was = exists_at w.replicas k (let within = slice_get_within v.replicas k replica at in let count = answered.many in omega (arith, within, count)) in
    let now = answered.others k was.0 ne was.1 in
    let same : now.0 ≡ replica = same_Some now.0 replica (sym now.1 ∙ at) in
    let full = before k was.0 (less k number (let next : number + 1 ≡ suc number = omega arith in omega (arith, below)) ne) was.1 in
    subst (λ (r : Replica). length r.replies ≡ length r.calls) same (now.2 ∙ full ∙ ap length (sym now.3)))
    (split k number))
    (λ k list h.
    let old = after (suc k) list h in
    let place : number + suc k ≡ (number + 1) + k = omega arith in
    let there = answered.others (number + suc k) old.0 (λ e. omega (arith, e)) old.1 in
    (there.0, subst (λ (n : ℕ). IsAt v n there.0) place there.1, there.2 ∙ old.2, ap length there.3 ∙ old.3)) in
    record { run = more_steps w v (after_lists work v (number + 1)) answered.run rest.run; idle = rest.idle; all = rest.all }

newcomer_at : (first : Record) (count from : ℕ) (work : List (List Call)) (k : ℕ) (calls : List Call) → slice_get work k ≡ Some calls
    → slice_get (newcomers first count from work) k ≡ Some (newcomer (from + k) count first calls)
newcomer_at first count from [] k calls h = cc
newcomer_at first count from (list ∷ work) zero calls h =
    let same : list ≡ calls = same_Some list calls h in
    let place : from ≡ from + 0 = omega arith in
    ap (λ (cs : List Call). Some (newcomer from count first cs)) same ∙ ap (λ (n : ℕ). Some (newcomer n count first calls)) place
newcomer_at first count from (list ∷ work) (suc k) calls h =
    let place : (from + 1) + k ≡ from + suc k = omega arith in
    newcomer_at first count (from + 1) work k calls h ∙ ap (λ (n : ℕ). Some (newcomer n count first calls)) place

pub alone_is_legal : RunOutcomeIsLegal → AloneIsLegal
alone_is_legal legal plan work sound fits =
    let w = opening_world plan work in
    let first = first_record plan in
    let done = lists_done work w 0 refl (newcomers_many first (length work) 0 work ∙ (let same : length work ≡ 0 + length work = omega arith in same)) (λ k replica below at. absurd (omega (arith, below)))
    (λ k calls h. (newcomer (0 + k) (length work) first calls, (let same : 0 + k ≡ k = omega arith in ap (slice_get w.replicas) same) ∙ newcomer_at first (length work) 0 work k calls h, refl, refl)) in
    subst (λ (v : World). IsLegal plan work v.replicas) (sym done.run.is)
    (legal plan work done.run.steps sound fits (ap (λ (v : World). v.course) (sym done.run.is) ∙ done.idle)
    (λ k replica at. done.all k replica (ap (λ (v : World). slice_get v.replicas k) done.run.is ∙ at)))
