-- What a plan text says.
use Rattle.std.specs.Prelude.{ℕ, List}
use Rattle.lucy_plan.specs.declared.parts.PlanParts.{PlanParts}
use Rattle.lucy_names.specs.declared.names.Names.{Names}
use Rattle.lucy_tree.specs.declared.plans.Tree.{Tree}
use Rattle.lucy_syntax.specs.Parsing.{tree_of}
use Rattle.lucy_elaborate.specs.Plans.{elaborated}
use Rattle.lucy_reading.specs.Faults.{syntax_line, elaboration_line}
use Rattle.lucy_reading.specs.Outcomes.{Outcome, ◌>>=◌, told}

-- the tree of a text, or the line of its first fault
unfoldable pub tree_read : List ℕ → List ℕ → Outcome Tree
tree_read name text = told (syntax_line name) (tree_of text)

-- the plan of a tree and its names, or the line of its first fault
unfoldable pub tree_meant : List ℕ → Tree → Outcome (PlanParts × Names)
tree_meant name tree = told (elaboration_line name) (elaborated tree)

-- the plan of a text and its names, or the line of the first fault: any fault of the text as a tree is told before one of what it means
unfoldable pub plan_read : List ℕ → List ℕ → Outcome (PlanParts × Names)
plan_read name text = tree_read name text >>= tree_meant name
