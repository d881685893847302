-- What stands in the pool of a walk.
use Rattle.std.specs.Prelude.{◌≡◌, ◌≤◌, true, false, IsTrue, List, length, map, Option, Some, None}
use Rattle.std.specs.List.{All}
use Rattle.std.specs.Arc.{arc_value}
use Rattle.lucy_plan.specs.declared.parts.PlanParts.{PlanParts}
use Rattle.lucy_expr.specs.Trees.{Tree, value}
use Rattle.lucy_expr.specs.Reachability.{IsReached}
use Rattle.lucy_walks.specs.Sketches.{tree_of, size, are_seated}
use Rattle.lucy_walks.specs.Walks.{most_nodes, enters}
use Rattle.lucy_walks.specs.declared.entries.Entry.{Entry}

-- an entry's expression
abbrev pub tree_in : Entry → Tree
tree_in entry = tree_of (arc_value entry.sketch)

abbrev pub trees_in : List Entry → List Tree
trees_in entries = map tree_in entries

-- what is known of an entry: its expression is reached, its state is the expression's value, and its nodes are counted
pub record IsEntry (plan : PlanParts) (entry : Entry) : Type 0 where
  pub reached : IsReached plan (tree_in entry)
  pub state_is : entry.state ≡ value plan plan.start (tree_in entry)
  pub nodes_is : entry.nodes ≡ size (tree_in entry)
  pub few : size (tree_in entry) ≤ most_nodes
  pub seated : IsTrue (are_seated (tree_in entry))
  pub even : length entry.state ≡ length plan.object

abbrev pub AreEntries : PlanParts → List Entry → Type 0
AreEntries plan entries = All (IsEntry plan) entries

-- what is made enters the pool as this entry, or does not enter it
abbrev pub Offers : PlanParts → Tree → Option Entry → Type 0
Offers plan tree None = enters plan tree ≡ false
Offers plan tree (Some entry) = (enters plan tree ≡ true) × (tree_in entry ≡ tree) × IsEntry plan entry
