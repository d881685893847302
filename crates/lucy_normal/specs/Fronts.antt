-- What begins with something else.
use Rattle.std.specs.Prelude.{◌≡◌, List, ◌++◌}
use Rattle.lucy_clauses.specs.declared.formulas.Clause.{Clause}
use Rattle.lucy_clauses.specs.declared.formulas.Range.{Range}
use Rattle.lucy_clauses.specs.declared.formulas.Formula.{Formula}

-- a list begins with another, behind which a rest follows
pub record Begins {X : Type 0} (front whole : List X) : Type 0 where
  pub rest : List X
  pub is : whole ≡ front ++ rest

-- so do a formula's ranges and its clauses
pub record Extends (front whole : Formula) : Type 0 where
  pub ranges : Begins {X = Range} front.ranges whole.ranges
  pub clauses : Begins {X = Clause} front.clauses whole.clauses
