-- The tree of shared nodes.
use Rattle.std.specs.Prelude.{ℕ, ◌+◌, List, [], ◌∷◌, ◌++◌, sum_by}
use Rattle.std.specs.Arc.{arc_value}
use Rattle.std.specs.Global.{Global}
use Rattle.std.specs.Borrow.{Bor}
use Rattle.std.specs.declared.sync.Arc.{Arc}
use Rattle.lucy_expr.specs.Trees.{Tree, Start, Apply, Merge, turns}
use Rattle.lucy_expr.specs.declared.turns.Turn.{Turn}
use Rattle.lucy_expr.specs.declared.nodes.Node.{Node}
use Rattle.lucy_expr.specs.declared.nodes.Node as node

-- the tree, without the places of the nodes in memory
abbrev pub tree_of : Node → Tree
tree_of node.Start = Start
tree_of (node.Apply' id call p inner) = Apply id call (tree_of inner)
tree_of (node.Merge' p left q right) = Merge (tree_of left) (tree_of right)

-- the nodes of all trees on a stack, the last tree first
abbrev pub turns_of_all : List (Bor Node) → List Turn
turns_of_all [] = []
turns_of_all (node ∷ nodes) = turns_of_all nodes ++ turns (tree_of node.now)

-- how many nodes it has, where a shared one counts each time
abbrev pub size : Node → ℕ
size node.Start = 1
size (node.Apply' id call p inner) = size inner + 1
size (node.Merge' p left q right) = size left + size right + 1

-- how many nodes they have together
abbrev pub size_of_all : List (Arc Node Global) → ℕ
size_of_all nodes = sum_by (λ node. size (arc_value node)) nodes
