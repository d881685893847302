-- What it is to be the negation of a condition.
use Rattle.std.specs.Prelude.{◌≡◌, ℕ, ℤ, List, not}
use Rattle.lucy_model.specs.Conditions.{holds_at, stands, is_condition}
use Rattle.lucy_model.specs.declared.conditions.Condition.{Condition}
use Rattle.lucy_model.specs.declared.conditions.Op.{Op}

-- a condition that holds exactly where another does not, over as many leaves and arguments
pub record IsNegation (negation condition : Condition) : Type 0 where
  pub opposite : (xs arguments : List ℤ) → holds_at negation xs arguments ≡ not (holds_at condition xs arguments)
  pub ranges : (m n : ℕ) → is_condition m n negation ≡ is_condition m n condition

-- a number stands in the one relation to 0 exactly where it does not stand in the other
pub record IsOpposite (p q : Op) : Type 0 where
  pub opposite : (x : ℤ) → stands p x ≡ not (stands q x)
