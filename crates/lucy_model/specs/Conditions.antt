-- Where a condition holds, and which conditions speak of so many leaves and arguments.
use Rattle.std.specs.Prelude.{ℕ, nat_lt, IsTrue, ℤ, pos, int_lt, int_le, Bool, true, false, not, ◌||◌, ◌&&◌, List}
use Rattle.std.specs.Ordering.{int_eq}
use Rattle.std.specs.List.{list_all, list_any}
use Rattle.lucy_model.specs.Numbers.{number_at}
use Rattle.lucy_model.specs.Terms.{term_value, is_term}
use Rattle.lucy_model.specs.declared.conditions.Op.{Op}
use Rattle.lucy_model.specs.declared.conditions.Op.TheVariants as op
use Rattle.lucy_model.specs.declared.conditions.Condition.{Condition}
use Rattle.lucy_model.specs.declared.conditions.Condition.TheOpen.{Condition-F}
use Rattle.lucy_model.specs.declared.conditions.Condition.TheFolds.{fold-Condition}

-- a number stands in a relation to 0
abbrev pub stands : Op → ℤ → Bool
stands op.Le x = int_le x (pos 0)
stands op.Lt x = int_lt x (pos 0)
stands op.Ge x = int_le (pos 0) x
stands op.Gt x = int_lt (pos 0) x
stands op.Eq x = int_eq x (pos 0)
stands op.Ne x = not (int_eq x (pos 0))

-- a test of the numbers of leaves and of arguments
abbrev pub Test : Type 0
Test = List ℤ → List ℤ → Bool

-- a condition's test, of the tests of its parts
abbrev pub test_step : Condition-F Test → Test
test_step Condition-F.True xs arguments = true
test_step Condition-F.False xs arguments = false
test_step (Condition-F.Compare term op) xs arguments = stands op (term_value term xs arguments)
test_step (Condition-F.Is leaf) xs arguments = int_le (pos 1) (number_at xs leaf)
test_step (Condition-F.Not part) xs arguments = not (part xs arguments)
test_step (Condition-F.And parts) xs arguments = list_all (λ part. part xs arguments) parts
test_step (Condition-F.Or parts) xs arguments = list_any (λ part. part xs arguments) parts
test_step (Condition-F.Implies left right) xs arguments = not (left xs arguments) || right xs arguments

-- whether a condition holds at the numbers of leaves and of arguments
abbrev pub holds_at : Condition → Test
holds_at = fold-Condition Test test_step

-- a condition holds
abbrev pub Holds : Condition → List ℤ → List ℤ → Type 0
Holds condition xs arguments = IsTrue (holds_at condition xs arguments)

-- a condition's leaves, terms and parts are in range
abbrev pub range_step : ℕ → ℕ → Condition-F Bool → Bool
range_step leaves arguments Condition-F.True = true
range_step leaves arguments Condition-F.False = true
range_step leaves arguments (Condition-F.Compare term op) = is_term leaves arguments term
range_step leaves arguments (Condition-F.Is leaf) = nat_lt leaf leaves
range_step leaves arguments (Condition-F.Not part) = part
range_step leaves arguments (Condition-F.And parts) = list_all (λ part. part) parts
range_step leaves arguments (Condition-F.Or parts) = list_all (λ part. part) parts
range_step leaves arguments (Condition-F.Implies left right) = left && right

-- a condition over so many leaves and arguments
abbrev pub is_condition : ℕ → ℕ → Condition → Bool
is_condition leaves arguments = fold-Condition Bool (range_step leaves arguments)
