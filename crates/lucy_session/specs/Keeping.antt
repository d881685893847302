-- What a session keeps.
use Rattle.std.specs.Prelude.{◌≡◌, ◌≤◌, true, List, All, length, Option, Some}
use Rattle.std.specs.Arc.{arc_value}
use Rattle.lucy_names.specs.Plans.{AreNamesOf}
use Rattle.lucy_plan.specs.Segments.{IsWhole}
use Rattle.lucy_plan.specs.declared.parts.PlanParts.{PlanParts}
use Rattle.lucy_expr.specs.Trees.{value}
use Rattle.lucy_expr.specs.Reachability.{IsReached}
use Rattle.lucy_walks.specs.Sketches.{size}
use Rattle.lucy_closure.specs.Points.{are_points}
use Rattle.lucy_session.specs.declared.reached.Reached.{Reached}
use Rattle.lucy_session.specs.declared.reached.Pair.{Pair}
use Rattle.lucy_session.specs.Sessions.{Dialogue, IsShown, most_points}

-- an expression reaches a state over the whole invariant, and has at most 10,000 nodes
pub record Reaches (plan : PlanParts) (entry : Reached) : Type 0 where
  pub reached : IsReached plan entry.expr.tree
  pub value_is : value plan plan.start entry.expr.tree ≡ entry.state
  pub few : size entry.expr.tree ≤ 10000

pub record IsKept (d : Dialogue) : Type 0 where
  -- the names are the plan's
  pub names : AreNamesOf d.plan d.names
  -- the start satisfies the invariant
  pub start : IsWhole d.plan d.plan.start
  -- at most 256 states are excluded, each with a number for each leaf
  pub few : length d.points ≤ most_points
  pub points : are_points (length d.plan.object) d.points ≡ true
  -- each state that has an expression is reached by it
  pub reached : All (Reaches d.plan) d.reached
  -- the pair that is shown is one
  pub shown : (p : Pair) → d.pair ≡ Some p → IsShown d.plan d.points p
