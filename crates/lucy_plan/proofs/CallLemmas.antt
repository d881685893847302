-- What a call changes.
use Rattle.std.proofs.Common.{◌≡◌, ℕ, ◌≤◌, nat_le, ℤ, pos, ◌==◌, Bool, true, false, ◌||◌, List, [], ◌∷◌, length, Some, slice_set, refl, ap, sym, ◌∙◌, arith}
use Rattle.std.specs.List.{list_all}
use Rattle.std.proofs.lemmas.Bool.{and_parts, leb-true}
use Rattle.std.proofs.lemmas.Bool.Decides.{nat_tests}
use Rattle.std.proofs.lemmas.List.{get_or-set_other}
use Rattle.lucy_model.specs.Numbers.{number_at}
use Rattle.lucy_model.specs.Terms.{term_value}
use Rattle.lucy_plan.specs.declared.parts.Set.{Set}
use Rattle.lucy_plan.specs.declared.parts.Txn.{Txn}
use Rattle.lucy_plan.specs.declared.parts.Call.{Call}
use Rattle.lucy_plan.specs.declared.parts.PlanParts.{PlanParts}
use Rattle.lucy_plan.specs.Calls.{changed_by, with_sets, takes, txn_of, are_arguments}
use Rattle.lucy_plan.specs.Plans.{IsPlan, is_txn, is_branch}
use Rattle.lucy_plan.specs.Laws.{CallWithoutBranchStays, UnsetLeafStays, sets_leaf}
use Rattle.lucy_plan.proofs.Found.{found_passes}
use Rattle.lucy_plan.proofs.Ranges.{AreSmall, even_arguments, arguments_small}

pub without_branch : CallWithoutBranchStays
without_branch plan call state h = ap (λ branch. changed_by branch state call.arguments) h

pub kept_number : (sets : List Set) (state arguments numbers : List ℤ) (leaf : ℕ) → sets_leaf sets leaf ≡ false → number_at (with_sets sets state arguments numbers) leaf ≡ number_at numbers leaf
kept_number [] state arguments numbers leaf h = refl
kept_number (change ∷ sets) state arguments numbers leaf h =
    let parts = neither (change.leaf == leaf) (sets_leaf sets leaf) h in
    kept_number sets state arguments (slice_set numbers change.leaf (term_value change.to state arguments)) leaf parts.1
    ∙ get_or-set_other numbers change.leaf leaf (term_value change.to state arguments) (pos 0) (apart change.leaf leaf parts.0)
  where
    neither : (a b : Bool) → (a || b) ≡ false → (a ≡ false) × (b ≡ false)
    neither a b e = grind (arith, nat_tests)

    apart : (m n : ℕ) → (m == n) ≡ false → n ≡ m → ⊥
    apart m n e same = absurd (grind (arith, nat_tests))

pub unset_leaf : UnsetLeafStays
unset_leaf plan call state branch leaf found h =
    ap (λ b. number_at (changed_by b state call.arguments) leaf) found ∙ kept_number branch.sets state call.arguments state leaf h

-- the found transaction of a plan

-- what is known of the transaction of a call that fits
pub record IsFound (plan : PlanParts) (arguments : List ℤ) (txn : Txn) : Type 0 where
  pub even : length arguments ≡ length txn.params
  pub few : length arguments ≤ 4
  pub small : AreSmall arguments
  pub branches : list_all (is_branch (length plan.object) (length arguments)) txn.branches ≡ true

pub found_txn : (plan : PlanParts) (call : Call) (txn : Txn) → IsPlan plan → txn_of plan call ≡ Some txn → takes (txn_of plan call) call.arguments ≡ true → IsFound plan call.arguments txn
found_txn plan call txn kept found fits =
    let taken : are_arguments txn.params call.arguments ≡ true = sym (ap (λ o. takes o call.arguments) found) ∙ fits in
    let tested = found_passes (is_txn (length plan.object)) plan.txns call.txn txn found kept.txns in
    let parts = and_parts (nat_le (length txn.params) 4) (list_all (is_branch (length plan.object) (length txn.params)) txn.branches) tested in
    let even = even_arguments txn.params call.arguments taken in
    record {
      even = even;
      few = omega (arith, even, leb-true (length txn.params) 4 parts.0);
      small = arguments_small txn.params call.arguments taken;
      branches = rw even parts.1;
    }
