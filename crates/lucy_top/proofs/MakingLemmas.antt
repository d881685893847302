-- The calls of work that fits a plan have names, if the names are those of the plan.
use Rattle.std.proofs.Common.{◌≡◌, ◌<◌, ℕ, suc, Bool, true, false, nat_lt, ◌&&◌, List, [], ◌∷◌, length, Option, Some, None, refl, sym, subst, arith}
use Rattle.std.specs.Prelude.{slice_get}
use Rattle.std.specs.List.{All, list_all}
use Rattle.std.proofs.lemmas.Bool.{lt-ltb}
use Rattle.std.proofs.lemmas.List.{length-map}
use Rattle.std.proofs.lemmas.Option.{slice_get_within}
use Rattle.lucy_calls.specs.Laws.{IsWorkOf}
use Rattle.lucy_calls.specs.Texts.{are_named, AreNamed}
use Rattle.lucy_names.specs.Plans.{txn_names}
use Rattle.lucy_plan.specs.Calls.{Fits, takes}
use Rattle.lucy_plan.specs.declared.parts.Call.{Call}
use Rattle.lucy_plan.specs.declared.parts.PlanParts.{PlanParts}
use Rattle.lucy_plan.specs.declared.parts.Txn.{Txn}

both : (a b : Bool) → a ≡ true → b ≡ true → (a && b) ≡ true
both true true p q = refl
both true false p q = q
both false b p q = p

-- what holds of each element is found true of all
all_true : {A : Type 0} (P : A → Type 0) (test : A → Bool) (xs : List A) → ((x : A) → P x → test x ≡ true) → All P xs → list_all test xs ≡ true
all_true P test [] each all = refl
all_true P test (x ∷ xs) each all = both (test x) (list_all test xs) (each x (all 0 x (omega arith))) (all_true P test xs each (λ k d within. all (suc k) d (omega (arith, within))))

found_within : (plan : PlanParts) (call : Call) (found : Option Txn) → slice_get plan.txns call.txn ≡ found → takes found call.arguments ≡ true → call.txn < length plan.txns
found_within plan call None is fits = absurd cc
found_within plan call (Some txn) is fits = slice_get_within plan.txns call.txn txn is

call_named : (plan : PlanParts) (call : Call) → Fits plan call → nat_lt call.txn (length (txn_names plan)) ≡ true
call_named plan call fits =
    lt-ltb call.txn (length (txn_names plan)) (subst (λ n. call.txn < n) (sym (length-map plan.txns (λ (txn : Txn). txn.name))) (found_within plan call (slice_get plan.txns call.txn) refl fits))

-- the calls of a work that fits have names
pub work_named : (plan : PlanParts) (lists : List (List Call)) (names : List (List ℕ)) → names ≡ txn_names plan → IsWorkOf plan lists → AreNamed names lists
work_named plan lists names is work =
    subst (λ ns. AreNamed ns lists) (sym is)
    (all_true (λ calls. All (Fits plan) calls) (are_named (txn_names plan)) lists
    (λ calls fit. all_true (Fits plan) (λ call. nat_lt call.txn (length (txn_names plan))) calls (call_named plan) fit) work.fits)
