-- How large the results of calls are.
use Rattle.std.proofs.Common.{◌≡◌, ℕ, ◌+◌, ◌-◌, ◌*◌, ◌<◌, ◌≤◌, ◌^◌, nat_le, nat_lt, ℤ, ◌+ℤ◌, ◌*ℤ◌, unsigned_abs, Bool, true, false, ◌&&◌, cond, List, [], ◌∷◌, length, slice_set, Some, arith}
use Rattle.std.proofs.lemmas.Bool.{and_parts}
use Rattle.std.proofs.lemmas.Bool.Decides.{nat_tests}
use Rattle.std.specs.List.{list_all}
use Rattle.std.proofs.lemmas.List.Elements.{All-set}
use Rattle.lucy_model.specs.Numbers.{number_at, AllBelow, IsWithin}
use Rattle.lucy_model.specs.Terms.{are_shares, shares_value, is_term, term_value, most_factor, most_constant}
use Rattle.lucy_model.specs.Conditions.{is_condition, holds_at}
use Rattle.lucy_model.proofs.Sizes.{IsWithin-add, IsWithin-mul, IsWithin-le}
use Rattle.lucy_model.specs.declared.terms.Share.{Share}
use Rattle.lucy_model.specs.declared.terms.Term.{Term}
use Rattle.lucy_plan.specs.declared.parts.Set.{Set}
use Rattle.lucy_plan.specs.declared.parts.Branch.{Branch}
use Rattle.lucy_plan.specs.Calls.{with_sets, changed_by, first_holding}
use Rattle.lucy_plan.specs.Plans.{is_set, is_branch}
use Rattle.lucy_plan.proofs.Ranges.{AreSmall, number_small, small_below}

share_parts : (from end slot size : ℕ) (rest : Bool) → (nat_le from slot && nat_lt slot end && nat_le size most_factor && rest) ≡ true → (from ≤ slot) × (slot < end) × (size ≤ 1000000) × (rest ≡ true)
share_parts from end slot size rest h = grind (arith, nat_tests)

pub shares_small : (from end : ℕ) (shares : List Share) (xs : List ℤ) → AreSmall xs → are_shares from end shares ≡ true → IsWithin ((end - from) * (1000000 * 2 ^ 40)) (shares_value shares xs)
shares_small from end [] xs small h = record { size = omega arith }
shares_small from end (share ∷ shares) xs small h =
    let parts = share_parts from end share.slot (unsigned_abs share.by) (are_shares (share.slot + 1) end shares) h in
    let product = IsWithin-mul 1000000 (2 ^ 40) share.by (number_at xs share.slot) (record { size = parts.2 }) (number_small xs small share.slot) in
    let rest = shares_small (share.slot + 1) end shares xs small parts.3 in
    let both = IsWithin-add (1000000 * 2 ^ 40) ((end - (share.slot + 1)) * (1000000 * 2 ^ 40)) (share.by *ℤ number_at xs share.slot) (shares_value shares xs) product rest in
    IsWithin-le (1000000 * 2 ^ 40 + (end - (share.slot + 1)) * (1000000 * 2 ^ 40)) ((end - from) * (1000000 * 2 ^ 40)) (share.by *ℤ number_at xs share.slot +ℤ shares_value shares xs) both (omega (arith, parts.0, parts.1))

term_parts : (a b : Bool) (n : ℕ) → (a && b && nat_le n most_constant) ≡ true → (a ≡ true) × (b ≡ true) × (n ≤ 2 ^ 62)
term_parts a b n h = grind (arith, nat_tests)

pub term_small : (leaves arguments : ℕ) (term : Term) (xs ys : List ℤ) → leaves ≤ 64 → arguments ≤ 4 → AreSmall xs → AreSmall ys → is_term leaves arguments term ≡ true → unsigned_abs (term_value term xs ys) < 2 ^ 69
term_small leaves arguments term xs ys few_leaves few_arguments small_xs small_ys h =
    let parts = term_parts (are_shares 0 leaves term.leaves) (are_shares 0 arguments term.arguments) (unsigned_abs term.constant) h in
    let a = shares_small 0 leaves term.leaves xs small_xs parts.0 in
    let b = shares_small 0 arguments term.arguments ys small_ys parts.1 in
    let c = IsWithin-add (2 ^ 62) ((leaves - 0) * (1000000 * 2 ^ 40)) term.constant (shares_value term.leaves xs) (record { size = parts.2 }) a in
    let d = IsWithin-add (2 ^ 62 + (leaves - 0) * (1000000 * 2 ^ 40)) ((arguments - 0) * (1000000 * 2 ^ 40)) (term.constant +ℤ shares_value term.leaves xs) (shares_value term.arguments ys) c b in
    omega (arith, d.size)

pub sets_small : (leaves : ℕ) (arguments : List ℤ) (sets : List Set) (state numbers : List ℤ) → leaves ≤ 64 → length arguments ≤ 4 → AreSmall state → AreSmall arguments → list_all (is_set leaves (length arguments)) sets ≡ true → AllBelow (2 ^ 69) numbers → AllBelow (2 ^ 69) (with_sets sets state arguments numbers)
sets_small leaves arguments [] state numbers few_leaves few_arguments small_state small_arguments h below = below
sets_small leaves arguments (change ∷ sets) state numbers few_leaves few_arguments small_state small_arguments h below =
    let parts = and_parts (is_set leaves (length arguments) change) (list_all (is_set leaves (length arguments)) sets) h in
    let term = (and_parts (nat_lt change.leaf leaves) (is_term leaves (length arguments) change.to) parts.0).1 in
    let value = term_small leaves (length arguments) change.to state arguments few_leaves few_arguments small_state small_arguments term in
    sets_small leaves arguments sets state (slice_set numbers change.leaf (term_value change.to state arguments)) few_leaves few_arguments small_state small_arguments parts.1
    (All-set (λ x. unsigned_abs x < 2 ^ 69) numbers change.leaf (term_value change.to state arguments) value below)

pub branches_small : (leaves : ℕ) (arguments : List ℤ) (branches : List Branch) (state : List ℤ) → leaves ≤ 64 → length arguments ≤ 4 → AreSmall state → AreSmall arguments → list_all (is_branch leaves (length arguments)) branches ≡ true → AllBelow (2 ^ 69) (changed_by (first_holding branches state arguments) state arguments)
branches_small leaves arguments [] state few_leaves few_arguments small_state small_arguments h = small_below (2 ^ 69) state (omega arith) small_state
branches_small leaves arguments (branch ∷ branches) state few_leaves few_arguments small_state small_arguments h =
    let parts = and_parts (is_branch leaves (length arguments) branch) (list_all (is_branch leaves (length arguments)) branches) h in
    let sets = (and_parts (is_condition leaves (length arguments) branch.when) (list_all (is_set leaves (length arguments)) branch.sets) parts.0).1 in
    elim (holds_at branch.when state arguments) as (λ b. AllBelow (2 ^ 69) (changed_by (cond b (Some branch) (first_holding branches state arguments)) state arguments)) [
      | true ↦ sets_small leaves arguments branch.sets state state few_leaves few_arguments small_state small_arguments sets (small_below (2 ^ 69) state (omega arith) small_state)
      | false ↦ branches_small leaves arguments branches state few_leaves few_arguments small_state small_arguments parts.1
    ]
