-- What a leaf that is set gets, and that calls keep the number of leaves.
use Rattle.std.proofs.Common.{◌≡◌, ℕ, zero, suc, ◌<◌, ℤ, pos, ◌==◌, nat_lt, nat_le, Bool, true, false, ◌||◌, cond, if◌then◌else◌, List, [], ◌∷◌, ◌++◌, map, length, Option, Some, None, slice_get, slice_set, refl, ap, sym, ◌∙◌, arith}
use Rattle.std.specs.Prelude.{find}
use Rattle.std.specs.List.{list_all, list_any}
use Rattle.std.proofs.lemmas.Bool.{and_parts}
use Rattle.std.proofs.lemmas.Bool.Decides.{nat_tests}
use Rattle.std.proofs.lemmas.List.{get_or-set_same, length-set}
use Rattle.std.proofs.lemmas.List.Folds.{list_any-append}
use Rattle.lucy_model.specs.Numbers.{number_at}
use Rattle.lucy_model.specs.Terms.{is_term, term_value}
use Rattle.lucy_model.specs.Conditions.{is_condition, holds_at}
use Rattle.lucy_plan.specs.declared.parts.Set.{Set}
use Rattle.lucy_plan.specs.declared.parts.Branch.{Branch}
use Rattle.lucy_plan.specs.declared.parts.Txn.{Txn}
use Rattle.lucy_plan.specs.declared.refusal.PlanError.{PlanError}
use Rattle.lucy_plan.specs.declared.refusal.PlanError.TheVariants.{BadIndex}
use Rattle.lucy_plan.specs.Calls.{branch_of, applied, changed_by, with_sets, branches_of, first_holding, txn_of}
use Rattle.lucy_plan.specs.Faults.{first_of, again_fault, branch_twice_fault, twice_fault}
use Rattle.lucy_plan.specs.Plans.{is_set, is_branch, is_txn}
use Rattle.lucy_plan.specs.Laws.{SetLeafGetsItsTerm, CallKeepsLength, sets_leaf}
use Rattle.lucy_plan.proofs.CallLemmas.{kept_number}
use Rattle.lucy_plan.proofs.Found.{found_passes}
use Rattle.lucy_plan.proofs.Kept.{none_both, plan_kept, sets_once}

-- lengths

length-with_sets : (sets : List Set) (state arguments numbers : List ℤ) → length (with_sets sets state arguments numbers) ≡ length numbers
length-with_sets [] state arguments numbers = refl
length-with_sets (change ∷ sets) state arguments numbers =
    length-with_sets sets state arguments (slice_set numbers change.leaf (term_value change.to state arguments)) ∙ length-set numbers change.leaf (term_value change.to state arguments)

length-changed_by : (branch : Option Branch) (state arguments : List ℤ) → length (changed_by branch state arguments) ≡ length state
length-changed_by None state arguments = refl
length-changed_by (Some branch) state arguments = length-with_sets branch.sets state arguments state

pub call_keeps_length : CallKeepsLength
call_keeps_length plan call state = length-changed_by (branch_of plan call state) state call.arguments

-- no leaf is set again

not_both : (b : Bool) → b ≡ true → b ≡ false → ⊥
not_both true p q = absurd (cc)
not_both false p q = absurd (cc)

still : (before : List Set) (x : Set) (leaf : ℕ) → list_any (λ earlier. earlier.leaf == leaf) before ≡ true → list_any (λ earlier. earlier.leaf == leaf) (before ++ x ∷ []) ≡ true
still before x leaf h = list_any-append (λ (earlier : Set). earlier.leaf == leaf) before (x ∷ []) ∙ ap (λ b. b || ((x.leaf == leaf) || false)) h

last : (before : List Set) (x : Set) → list_any (λ earlier. earlier.leaf == x.leaf) (before ++ x ∷ []) ≡ true
last before x = list_any-append (λ (earlier : Set). earlier.leaf == x.leaf) before (x ∷ []) ∙ either (list_any (λ earlier. earlier.leaf == x.leaf) before) x.leaf
  where
    either : (b : Bool) (n : ℕ) → (b || ((n == n) || false)) ≡ true
    either b n = grind (arith, nat_tests)

later : (before : List Set) (x : Set) (sets : List Set) → again_fault before (x ∷ sets) ≡ None → (list_any (λ earlier. earlier.leaf == x.leaf) before ≡ false) × (again_fault (before ++ x ∷ []) sets ≡ None)
later before x sets h = by (list_any (λ earlier. earlier.leaf == x.leaf) before) refl h
  where
    by : (b : Bool) → list_any (λ earlier. earlier.leaf == x.leaf) before ≡ b → (if b then Some (BadIndex x.leaf) else again_fault (before ++ x ∷ []) sets) ≡ None
        → (list_any (λ earlier. earlier.leaf == x.leaf) before ≡ false) × (again_fault (before ++ x ∷ []) sets ≡ None)
    by true e h = absurd (cc)
    by false e h = (e, h)

not_again : (before sets : List Set) (leaf : ℕ) → again_fault before sets ≡ None → list_any (λ earlier. earlier.leaf == leaf) before ≡ true → sets_leaf sets leaf ≡ false
not_again before [] leaf h set = refl
not_again before (x ∷ sets) leaf h set =
    let parts = later before x sets h in
    neither (x.leaf == leaf) (sets_leaf sets leaf) (apart (x.leaf == leaf) (λ e. not_both (list_any (λ earlier. earlier.leaf == leaf) before) set (sym (ap (λ n. list_any (λ earlier. earlier.leaf == n) before) (equal x.leaf leaf e)) ∙ parts.0)))
    (not_again (before ++ x ∷ []) sets leaf parts.1 (still before x leaf set))
  where
    neither : (a b : Bool) → a ≡ false → b ≡ false → (a || b) ≡ false
    neither a b p q = grind (arith, nat_tests)

    apart : (b : Bool) → (b ≡ true → ⊥) → b ≡ false
    apart true f = absurd (f refl)
    apart false f = refl

    equal : (m n : ℕ) → (m == n) ≡ true → m ≡ n
    equal m n e = grind (arith, nat_tests)

set_number : (before sets : List Set) (state arguments numbers : List ℤ) (place : ℕ) (change : Set) → again_fault before sets ≡ None → slice_get sets place ≡ Some change → change.leaf < length numbers → number_at (with_sets sets state arguments numbers) change.leaf ≡ term_value change.to state arguments
set_number before [] state arguments numbers place change h at below = absurd (cc)
set_number before (x ∷ sets) state arguments numbers zero change h at below =
    let same : change ≡ x = cc in
    let parts = later before x sets h in
    let value = term_value change.to state arguments in
    let unset : sets_leaf sets change.leaf ≡ false = ap (λ (c : Set). sets_leaf sets c.leaf) same ∙ not_again (before ++ x ∷ []) sets x.leaf parts.1 (last before x) in
    ap (λ (c : Set). number_at (with_sets (c ∷ sets) state arguments numbers) change.leaf) (sym same)
    ∙ kept_number sets state arguments (slice_set numbers change.leaf value) change.leaf unset
    ∙ get_or-set_same numbers change.leaf value (pos 0) below
set_number before (x ∷ sets) state arguments numbers (suc place) change h at below =
    let value = term_value x.to state arguments in
    set_number (before ++ x ∷ []) sets state arguments (slice_set numbers x.leaf value) place change (later before x sets h).1 at (omega (arith, below, length-set numbers x.leaf value))

-- the branch of a call

found_none : {X : Type 0} (fault : X → Option PlanError) (xs : List X) (i : ℕ) (x : X) → slice_get xs i ≡ Some x → first_of (map fault xs) ≡ None → fault x ≡ None
found_none fault [] i x at h = absurd (cc)
found_none fault (y ∷ xs) zero x at h = let same : x ≡ y = cc in ap fault same ∙ (none_both (fault y) (first_of (map fault xs)) h).0
found_none fault (y ∷ xs) (suc i) x at h = found_none fault xs i x at (none_both (fault y) (first_of (map fault xs)) h).1

record IsAtPlace {X : Type 0} (xs : List X) (x : X) : Type 0 where
  place : ℕ
  at : slice_get xs place ≡ Some x

find_place : {X : Type 0} (test : X → Bool) (xs : List X) (x : X) → find test xs ≡ Some x → IsAtPlace xs x
find_place test [] x h = absurd (cc)
find_place test (y ∷ xs) x h = by (test y) h (find_place test xs x)
  where
    by : (b : Bool) → cond b (Some y) (find test xs) ≡ Some x → (find test xs ≡ Some x → IsAtPlace xs x) → IsAtPlace (y ∷ xs) x
    by true e rec = record { place = 0; at = e }
    by false e rec = let rest = rec e in record { place = suc rest.place; at = rest.at }

pub set_leaf : SetLeafGetsItsTerm
set_leaf plan call state branch place change valid even found at = by (txn_of plan call) refl found
  where
    by : (o : Option Txn) → txn_of plan call ≡ o → first_holding (branches_of o) state call.arguments ≡ Some branch → number_at (applied plan call state) change.leaf ≡ term_value change.to state call.arguments
    by None e h = absurd (cc)
    by (Some txn) e h =
        let n = length plan.object in
        let kept = plan_kept plan valid in
        let first = find_place (λ (b : Branch). holds_at b.when state call.arguments) txn.branches branch h in
        let once = found_none branch_twice_fault txn.branches first.place branch first.at (found_none twice_fault plan.txns call.txn txn e (sets_once plan valid)) in
        let tested = found_passes (is_txn n) plan.txns call.txn txn e kept.txns in
        let branches = (and_parts (few txn) (list_all (is_branch n (length txn.params)) txn.branches) tested).1 in
        let of_branch = found_passes (is_branch n (length txn.params)) txn.branches first.place branch first.at branches in
        let sets = (and_parts (is_condition n (length txn.params) branch.when) (list_all (is_set n (length txn.params)) branch.sets) of_branch).1 in
        let of_change = found_passes (is_set n (length txn.params)) branch.sets place change at sets in
        let below = (and_parts (nat_lt change.leaf n) (is_term n (length txn.params) change.to) of_change).0 in
        ap (λ b. number_at (changed_by b state call.arguments) change.leaf) found
        ∙ set_number [] branch.sets state call.arguments state place change once at (tested_below change.leaf n (length state) below even)
      where
        few : Txn → Bool
        few txn = nat_le (length txn.params) 4

        tested_below : (m n k : ℕ) → nat_lt m n ≡ true → k ≡ n → m < k
        tested_below m n k p q = grind (arith, nat_tests)
