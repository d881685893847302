-- What an expression that a walk meets is.
use Rattle.std.specs.Prelude.{◌≡◌, ◌≤◌, ℤ, List}
use Rattle.lucy_plan.specs.declared.parts.PlanParts.{PlanParts}
use Rattle.lucy_expr.specs.Trees.{Tree, value}
use Rattle.lucy_expr.specs.Reachability.{IsReached}
use Rattle.lucy_walks.specs.Sketches.{size}
use Rattle.lucy_walks.specs.Walks.{most_nodes}

-- it is reached from the plan's start, its value is the goal, and it has at most 1,000 nodes
pub record Meets (plan : PlanParts) (goal : List ℤ) (tree : Tree) : Type 0 where
  pub reached : IsReached plan tree
  pub value_is : value plan plan.start tree ≡ goal
  pub few : size tree ≤ most_nodes
