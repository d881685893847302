-- Numbers in the ranges of leaves and of parameters.
use Rattle.std.proofs.Common.{◌≡◌, ℕ, zero, suc, ◌<◌, ◌≤◌, ◌^◌, ℤ, pos, neg_ℤ, ◌≤ℤ◌, int_le, unsigned_abs, Bool, true, false, ◌&&◌, List, [], ◌∷◌, length, get_or, refl, ap, ◌∙◌, arith}
use Rattle.std.proofs.lemmas.Int.{ints}
use Rattle.std.proofs.lemmas.Bool.{and_parts}
use Rattle.std.specs.List.{All}
use Rattle.std.proofs.lemmas.List.Elements.{All-nil, All-cons, All-head, All-tail}
use Rattle.lucy_model.specs.Numbers.{number_at, AllBelow, IsWithin}
use Rattle.lucy_model.specs.Ranges.{allows, all_allowed}
use Rattle.lucy_model.specs.Conditions.{holds_at}
use Rattle.lucy_model.specs.declared.leaves.Leaf.{Leaf}
use Rattle.lucy_plan.specs.declared.parts.Limits.{Limits}
use Rattle.lucy_plan.specs.Calls.{are_arguments}
use Rattle.lucy_plan.specs.Segments.{IsStateNumber, AreStateNumbers}
use Rattle.lucy_plan.specs.Laws.{WholeNumbersAreStateNumbers}

and_false : (b : Bool) → (b && false) ≡ false
and_false true = refl
and_false false = refl

pub uneven : (object : List Leaf) (xs : List ℤ) → (length object ≡ length xs → ⊥) → all_allowed object xs ≡ false
uneven [] [] h = absurd (h refl)
uneven [] (x ∷ xs) h = refl
uneven (leaf ∷ leaves) [] h = refl
uneven (leaf ∷ leaves) (x ∷ xs) h = ap (λ b. allows leaf x && b) (uneven leaves xs (λ e. h (omega (arith, e)))) ∙ and_false (allows leaf x)

allowed_even : (object : List Leaf) (xs : List ℤ) → all_allowed object xs ≡ true → length xs ≡ length object
allowed_even [] [] h = refl
allowed_even [] (x ∷ xs) h = absurd (cc)
allowed_even (leaf ∷ leaves) [] h = absurd (cc)
allowed_even (leaf ∷ leaves) (x ∷ xs) h = omega (arith, allowed_even leaves xs (and_parts (allows leaf x) (all_allowed leaves xs) h).1)

pub uneven_arguments : (params : List Limits) (arguments : List ℤ) → (length params ≡ length arguments → ⊥) → are_arguments params arguments ≡ false
uneven_arguments [] [] h = absurd (h refl)
uneven_arguments [] (x ∷ arguments) h = refl
uneven_arguments (limits ∷ params) [] h = refl
uneven_arguments (limits ∷ params) (x ∷ arguments) h =
    ap (λ b. int_le limits.lo x && int_le x limits.hi && b) (uneven_arguments params arguments (λ e. h (omega (arith, e)))) ∙ and_false (int_le limits.lo x && int_le x limits.hi)

pub even_arguments : (params : List Limits) (arguments : List ℤ) → are_arguments params arguments ≡ true → length arguments ≡ length params
even_arguments [] [] h = refl
even_arguments [] (x ∷ arguments) h = absurd (cc)
even_arguments (limits ∷ params) [] h = absurd (cc)
even_arguments (limits ∷ params) (x ∷ arguments) h =
    omega (arith, even_arguments params arguments (and_parts (int_le limits.lo x && int_le x limits.hi) (are_arguments params arguments) h).1)

le_tested : (x y : ℤ) → int_le x y ≡ true → x ≤ℤ y
le_tested x y h = grind (arith, ints)

-- a number in a range whose bounds are at most 2^40 in size
in_range : (lo hi x : ℤ) → neg_ℤ (pos (2 ^ 40)) ≤ℤ lo → hi ≤ℤ pos (2 ^ 40) → (int_le lo x && int_le x hi) ≡ true → unsigned_abs x ≤ 2 ^ 40
in_range lo hi x low high h =
    let parts = and_parts (int_le lo x) (int_le x hi) h in
    omega (arith, ints, low, high, le_tested lo x parts.0, le_tested x hi parts.1)

-- each number is at most 2^40 in size
pub record AreSmall (xs : List ℤ) : Type 0 where
  pub each : All (λ x. unsigned_abs x ≤ 2 ^ 40) xs

pub allowed_small : (object : List Leaf) (xs : List ℤ) → all_allowed object xs ≡ true → AreSmall xs
allowed_small [] [] h = record { each = All-nil (λ x. unsigned_abs x ≤ 2 ^ 40) }
allowed_small [] (x ∷ xs) h = absurd (cc)
allowed_small (leaf ∷ leaves) [] h = absurd (cc)
allowed_small (leaf ∷ leaves) (x ∷ xs) h =
    let parts = and_parts (allows leaf x) (all_allowed leaves xs) h in
    record { each = All-cons (λ x. unsigned_abs x ≤ 2 ^ 40) x xs (in_range leaf.lo leaf.hi x leaf.low leaf.high parts.0) (allowed_small leaves xs parts.1).each }

pub arguments_small : (params : List Limits) (xs : List ℤ) → are_arguments params xs ≡ true → AreSmall xs
arguments_small [] [] h = record { each = All-nil (λ x. unsigned_abs x ≤ 2 ^ 40) }
arguments_small [] (x ∷ xs) h = absurd (cc)
arguments_small (limits ∷ params) [] h = absurd (cc)
arguments_small (limits ∷ params) (x ∷ xs) h =
    let parts = and_parts (int_le limits.lo x && int_le x limits.hi) (are_arguments params xs) h in
    record { each = All-cons (λ x. unsigned_abs x ≤ 2 ^ 40) x xs (in_range limits.lo limits.hi x limits.low limits.high parts.0) (arguments_small params xs parts.1).each }

pub number_small : (xs : List ℤ) → AreSmall xs → (i : ℕ) → IsWithin (2 ^ 40) (number_at xs i)
number_small [] h i = record { size = omega arith }
number_small (x ∷ xs) h zero = record { size = All-head (λ x. unsigned_abs x ≤ 2 ^ 40) x xs h.each }
number_small (x ∷ xs) h (suc i) = number_small xs (record { each = All-tail (λ x. unsigned_abs x ≤ 2 ^ 40) x xs h.each }) i

pub small_below : (end : ℕ) (xs : List ℤ) → 2 ^ 40 < end → AreSmall xs → AllBelow end xs
small_below end xs h small k d below = omega (arith, small.each k d below)

state_number : (x : ℤ) → unsigned_abs x ≤ 2 ^ 40 → IsStateNumber x
state_number x h = (omega (arith, ints, h), omega (arith, ints, h))

pub allowed_states : (object : List Leaf) (xs : List ℤ) → length object ≤ 64 → all_allowed object xs ≡ true → AreStateNumbers xs
allowed_states object xs few h =
    let small = allowed_small object xs h in
    record { few = omega (arith, allowed_even object xs h); each = λ k d below. state_number (get_or xs k d) (small.each k d below) }

pub whole_numbers : WholeNumbersAreStateNumbers
whole_numbers plan numbers kept h =
    allowed_states plan.object numbers kept.leaves_few (and_parts (all_allowed plan.object numbers) (holds_at plan.invariant numbers []) h).0
