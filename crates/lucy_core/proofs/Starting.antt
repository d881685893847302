-- The opening world is safe.
use Rattle.std.proofs.Common.{◌≡◌, ◌<◌, ◌+◌, ℕ, zero, suc, List, [], ◌∷◌, ◌++◌, length, map, refl, sym, ap, ◌∙◌, subst, ⊎_elim, arith}
use Rattle.std.specs.Prelude.{Some, slice_get, Contains}
use Rattle.std.proofs.lemmas.Option.{same_Some, slice_get_within}
use Rattle.lucy_plan.specs.Segments.{IsInSegment}
use Rattle.lucy_plan.specs.Soundness.{IsSound}
use Rattle.lucy_plan.specs.declared.parts.Call.{Call}
use Rattle.lucy_plan.specs.declared.parts.PlanParts.{PlanParts}
use Rattle.lucy_expr.specs.Trees.{Start, Apply}
use Rattle.lucy_epochs.specs.Records.{Record, first_record}
use Rattle.lucy_replica.specs.Replicas.{Refused, Stay, Replica, stays, newcomer}
use Rattle.lucy_replica.specs.Facts.{IsSettled}
use Rattle.lucy_replica.specs.Laws.{SettledIsWhole, NewcomerIsSettled}
use Rattle.lucy_core.specs.Worlds.{World, IsAt, newcomers, opening_world, IsWorkOf}
use Rattle.lucy_core.specs.Safety.{AreOnSpines}
use Rattle.lucy_core.specs.Laws.{OpeningIsSafe, RunsKeepSafe, EveryRunIsSafe}
use Rattle.lucy_core.proofs.Places.{here_or_later}
use Rattle.lucy_core.proofs.OneChange.{stay_cases}
use Rattle.lucy_core.proofs.Kept.{IsKept}
use Rattle.lucy_core.proofs.Meaning.{safe_from, facts_from}

-- the replica at a place is the newcomer of that number
newcomer_at : (first : Record) (count from : ℕ) (work : List (List Call)) (place : ℕ) (replica : Replica) → slice_get (newcomers first count from work) place ≡ Some replica
    → (calls : List Call) × (slice_get work place ≡ Some calls) × (replica ≡ newcomer (from + place) count first calls)
newcomer_at first count from [] place replica h = cc
newcomer_at first count from (calls ∷ work) zero replica h =
    let is : newcomer from count first calls ≡ replica = cc in
    let same : from ≡ from + 0 = omega arith in
    (calls, refl, sym is ∙ ap (λ (n : ℕ). newcomer n count first calls) same)
newcomer_at first count from (calls ∷ work) (suc place) replica h =
    let found = newcomer_at first count (from + 1) work place replica h in
    let same : (from + 1) + place ≡ from + suc place = omega arith in
    (found.0, found.1, found.2 ∙ ap (λ (n : ℕ). newcomer n count first found.0) same)

-- there is one for each list of the work
pub newcomers_many : (first : Record) (count from : ℕ) (work : List (List Call)) → length (newcomers first count from work) ≡ length work
newcomers_many first count from [] = refl
newcomers_many first count from (calls ∷ work) = ap suc (newcomers_many first count (from + 1) work)

one_at : {X : Type 0} (x y : X) (place : ℕ) → slice_get (x ∷ []) place ≡ Some y → (place ≡ 0) × (x ≡ y)
one_at x y zero h = (refl, same_Some x y h)
one_at x y (suc place) h = cc

none_at : {X : Type 0} (place : ℕ) (x : X) → slice_get [] place ≡ Some x → ⊥
none_at place x h = cc

none_contained : {X : Type 0} (x : X) → Contains [] x → ⊥
none_contained x h = let below = h.1 in omega arith

-- the opening state has no calls
start_on_spines : (w : World) (epoch : Record) → AreOnSpines w epoch Start
start_on_spines w epoch id call inner h =
    absurd (⊎_elim (λ e. let no : ⊥ = cc in no) (λ c. none_contained (Apply id call inner) c) (here_or_later Start (Apply id call inner) [] h))

fresh_on_spines : (w : World) (first : Record) (number count : ℕ) (calls : List Call) (stay : Stay) → Contains (stays (newcomer number count first calls)) stay → AreOnSpines w stay.epoch stay.tree
fresh_on_spines w first number count calls stay h =
    ⊎_elim
    (λ closed. absurd (none_contained stay closed))
    (λ now. subst (λ (s : Stay). AreOnSpines w s.epoch s.tree) now (start_on_spines w first))
    (stay_cases (newcomer number count first calls) stay h)

-- the start of a sound plan is in the first record's segment, since a replica without calls that is at it keeps all that it has to
start_fits : NewcomerIsSettled → (plan : PlanParts) → IsSound plan → IsInSegment plan (first_record plan).segment plan.start
start_fits fresh plan sound =
    let one : 0 < 1 = omega arith in
    (fresh 0 1 plan [] sound one (omega arith) (λ place call h. absurd (none_at place call h))).open_stay.made.reachable

pub opening_kept : NewcomerIsSettled → (plan : PlanParts) (work : List (List Call)) → IsSound plan → IsWorkOf plan work → IsKept (opening_world plan work)
opening_kept fresh plan work sound fits =
    let first : Record = first_record plan in
    let count : ℕ = length work in
    let w : World = opening_world plan work in
    let found : (number : ℕ) (replica : Replica) → IsAt w number replica → (calls : List Call) × (slice_get work number ≡ Some calls) × (replica ≡ newcomer (0 + number) count first calls) = newcomer_at first count 0 work in
    record {
      seated = λ number replica at. ap (λ (r : Replica). r.number) (found number replica at).2 ∙ (let same : 0 + number ≡ number = omega arith in same);
      settled = λ number replica at.
          let n = found number replica at in
          let within : 0 + number < length work = omega (arith, slice_get_within work number n.0 n.1) in
          subst (λ (r : Replica). IsSettled r) (sym n.2)
          (fresh (0 + number) count plan n.0 sound within (fits.few_calls number n.0 n.1) (λ place call h. fits.fits number place n.0 call n.1 h));
      in_order = record {
        first = first;
        first_is = refl;
        begins = refl;
        numbered = λ place epoch h. let one = one_at first epoch place h in ap (λ (e : Record). e.number) (sym one.1) ∙ sym one.0;
        fronts = λ number replica at. ([], subst (λ (r : Replica). first ∷ [] ≡ map (λ (stay : Stay). stay.epoch) (stays r) ++ []) (sym (found number replica at).2) refl);
      };
      at_last = λ number replica at free. ap (λ (r : Replica). r.epoch.number + 1) (found number replica at).2;
      at_last_but_one = λ number replica at lag. absurd (let no : ⊥ = cc in no);
      on_spines = λ number replica stay at h.
          let n = found number replica at in
          fresh_on_spines w first (0 + number) count n.0 stay (subst (λ (r : Replica). Contains (stays r) stay) n.2 h);
      sent_on_spines = λ packet message h. absurd (none_at packet message h);
      openings = λ place before after is next. absurd (omega (arith, (one_at first after (place + 1) next).0));
      openings_fit = λ place epoch h. subst (λ (e : Record). IsInSegment e.plan e.segment e.opening) (one_at first epoch place h).1 (start_fits fresh plan sound);
      follows = tt;
      listed = λ packet message h. absurd (none_at packet message h);
      made = λ packet message h. absurd (none_at packet message h);
      refusals = λ number replica place point parts at h. absurd (
          none_at place (Refused point parts) (subst (λ (r : Replica). slice_get r.replies place ≡ Some (Refused point parts)) (found number replica at).2 h));
    }

-- ---- the laws
pub opening_safe : NewcomerIsSettled → SettledIsWhole → OpeningIsSafe
opening_safe fresh whole plan work sound fits =
    let kept = opening_kept fresh plan work sound fits in
    (safe_from whole (opening_world plan work) kept, facts_from (opening_world plan work) kept)

pub every_run_safe : OpeningIsSafe → RunsKeepSafe → EveryRunIsSafe
every_run_safe opening runs plan work steps n sound fits =
    let begins = opening plan work sound fits in (runs (opening_world plan work) steps n begins.0 begins.1).0
