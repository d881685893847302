-- What the test of a work says.
use Rattle.std.proofs.Common.{◌≡◌, ◌≤◌, ◌↔◌, ℕ, Bool, true, List, [], ◌∷◌, length, refl, sym, ap, ◌∙◌, zero, suc, nat_le}
use Rattle.std.specs.Prelude.{Some, slice_get}
use Rattle.std.specs.List.{list_all}
use Rattle.std.proofs.lemmas.Bool.{and_parts, and_from, leb-true, le-leb}
use Rattle.lucy_plan.specs.Calls.{call_fits}
use Rattle.lucy_plan.specs.declared.parts.Call.{Call}
use Rattle.lucy_plan.specs.declared.parts.PlanParts.{PlanParts}
use Rattle.lucy_core.specs.Worlds.{are_calls_of, IsWorkOf}

-- a test that all elements pass is passed by each
each_passes : {X : Type 0} (p : X → Bool) (xs : List X) → list_all p xs ≡ true → (k : ℕ) (x : X) → slice_get xs k ≡ Some x → p x ≡ true
each_passes p [] h k x at = cc
each_passes p (y ∷ xs) h zero x at = let is : y ≡ x = cc in ap p (sym is) ∙ (and_parts (p y) (list_all p xs) h).0
each_passes p (y ∷ xs) h (suc k) x at = each_passes p xs (and_parts (p y) (list_all p xs) h).1 k x at

-- and the other way round
all_pass : {X : Type 0} (p : X → Bool) (xs : List X) → ((k : ℕ) (x : X) → slice_get xs k ≡ Some x → p x ≡ true) → list_all p xs ≡ true
all_pass p [] h = refl
all_pass p (x ∷ xs) h = and_from (p x) (list_all p xs) (h 0 x refl) (all_pass p xs (λ k y at. h (suc k) y at))

pub work_from : (plan : PlanParts) (work : List (List Call)) → 1 ≤ length work → length work ≤ 16 → (list_all (are_calls_of plan) work ≡ true) ↔ IsWorkOf plan work
work_from plan work some few = (
  λ h.
      let of : (number : ℕ) (list : List Call) → slice_get work number ≡ Some list → (nat_le (length list) 4096 ≡ true) × (list_all (call_fits plan) list ≡ true) =
      λ number list at. and_parts (nat_le (length list) 4096) (list_all (call_fits plan) list) (each_passes (are_calls_of plan) work h number list at) in
      record {
        fits = λ number place list call at is. each_passes (call_fits plan) list (of number list at).1 place call is;
        some_replica = some;
        few_replicas = few;
        few_calls = λ number list at. leb-true (length list) 4096 (of number list at).0;
      },
  λ fits. all_pass (are_calls_of plan) work (λ number list at. and_from (nat_le (length list) 4096) (list_all (call_fits plan) list) (le-leb (length list) 4096 (fits.few_calls number list at)) (all_pass (call_fits plan) list (λ place call is. fits.fits number place list call at is))),
)
