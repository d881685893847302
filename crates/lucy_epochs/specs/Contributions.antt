-- What replicas give to a change.
use Rattle.std.specs.Prelude.{◌≡◌, ℕ, ◌+◌, ℤ, List, [], ◌∷◌, length, map, refl}
use Rattle.std.specs.Coded.{Coded, code_by, coded×, coded_ℕ, coded_ℤ, coded_list}
use Rattle.lucy_model.specs.declared.leaves.Leaf.{Leaf}
use Rattle.lucy_expr.specs.Trees.{Tree, value}
use Rattle.lucy_expr.specs.Expressions.{Expression, expression_code}
use Rattle.lucy_expr.specs.Reachability.{IsReachable}
use Rattle.lucy_epochs.specs.Records.{Record, record_code}

-- a replica's number, its record, its state and its expression
pub record Contribution : Type 0 where
  pub replica : ℕ
  pub epoch : Record
  pub state : List ℤ
  pub expression : Expression

abbrev pub contribution_code : Coded Contribution
contribution_code = code_by (ℕ × (Record × (List ℤ × Expression))) (coded× coded_ℕ (coded× record_code (coded× (coded_list coded_ℤ) expression_code)))
    (λ c. (c.replica, (c.epoch, (c.state, c.expression)))) (λ p. record { replica = p.0; epoch = p.1.0; state = p.1.1.0; expression = p.1.1.1 }) (λ _. refl)

-- a state of a record was made by an expression
pub record IsMade (epoch : Record) (state : List ℤ) (tree : Tree) : Type 0 where
  -- the expression is reachable from the record's opening within the record's segment
  pub reachable : IsReachable epoch.plan epoch.segment epoch.opening tree
  -- and the state is what it gives
  pub state_is : state ≡ value epoch.plan epoch.opening tree

-- from a place on, each part is that of the replica of its place, and has this record
abbrev pub AreFrom : ℕ → Record → List Contribution → Type 0
AreFrom place epoch [] = Unit {0}
AreFrom place epoch (part ∷ parts) = (part.replica ≡ place) × (part.epoch ≡ epoch) × AreFrom (place + 1) epoch parts

-- the parts are one for each replica, in the order of their numbers, and all have one record
abbrev pub AreOfOne : List Contribution → Type 0
AreOfOne [] = Unit {0}
AreOfOne (part ∷ parts) = AreFrom 0 part.epoch (part ∷ parts)

-- each part was made
abbrev pub AreMade : List Contribution → Type 0
AreMade [] = Unit {0}
AreMade (part ∷ parts) = IsMade part.epoch part.state part.expression.tree × AreMade parts

-- the expressions of the parts
abbrev pub trees_of : List Contribution → List Tree
trees_of parts = map (λ part. part.expression.tree) parts

-- the state of each part has a number for each leaf of an object
abbrev pub AreEven : List Leaf → List Contribution → Type 0
AreEven object [] = Unit {0}
AreEven object (part ∷ parts) = (length part.state ≡ length object) × AreEven object parts
