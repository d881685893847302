-- What was read can be run.
use Rattle.std.proofs.Common.{◌≡◌, ◌≤◌, ℕ, List, subst}
use Rattle.std.specs.Prelude.{Some, slice_get, All, Result, Ok, Err, IfOk, length}
use Rattle.std.proofs.lemmas.Option.{get_or_from_slice_get, slice_get_within}
use Rattle.lucy_plan.specs.Calls.{Fits}
use Rattle.lucy_plan.specs.declared.parts.Call.{Call}
use Rattle.lucy_plan.specs.declared.parts.PlanParts.{PlanParts}
use Rattle.lucy_calls.specs.Laws as calls
use Rattle.lucy_reading.specs.declared.refusal.Refusal.{Refusal}
use Rattle.lucy_reading.specs.declared.refusal.Refusal.TheVariants.{Bad, OutOfMemory}
use Rattle.lucy_core.specs.Worlds.{IsWorkOf}
use Rattle.lucy_top.specs.Fetching.{OrRefused}
use Rattle.lucy_top.specs.declared.said.Stop.{Stop}

all_at : {A : Type 0} (P : A → Type 0) (xs : List A) (k : ℕ) (x : A) → All P xs → slice_get xs k ≡ Some x → P x
all_at P xs k x all is = subst P (get_or_from_slice_get xs k x x is) (all k x (slice_get_within xs k x is))

-- a work that was read can be run
pub work_so : (plan : PlanParts) (work : List (List Call)) → calls.IsWorkOf plan work → IsWorkOf plan work
work_so plan work is = record {
  fits = λ number place calls call at_number at_place. all_at (Fits plan) calls place call (all_at (λ (cs : List Call). All (Fits plan) cs) work number calls is.fits at_number) at_place;
  some_replica = is.some;
  few_replicas = is.few;
  few_calls = λ number calls at_number. all_at (λ (cs : List Call). length cs ≤ 4096) work number calls is.short at_number;
}

-- what is known of a value that was read is known where the command goes on with it
pub read_so : {X : Type 0} (P : X → Type 0) (found : Result X Refusal) (result : Result X Stop) → OrRefused found result → IfOk found P → IfOk result P
read_so P (Ok x) result so known = rw so known
read_so P (Err (Bad line)) (Ok x) so known = absurd so
read_so P (Err (Bad line)) (Err e) so known = tt
read_so P (Err OutOfMemory) result so known = rw so tt

pub ok_weaker : {X E : Type 0} (P Q : X → Type 0) (r : Result X E) → ((x : X) → P x → Q x) → IfOk r P → IfOk r Q
ok_weaker P Q (Ok x) f h = f x h
ok_weaker P Q (Err e) f h = tt
