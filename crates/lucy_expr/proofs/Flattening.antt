-- The nodes that wait on a stack.
use Rattle.std.proofs.Common.{◌≡◌, ◌<◌, List, [], ◌∷◌, ◌++◌, length, ap, sym, ◌∙◌, arith, append-nil, append_assoc, Bor}
use Rattle.lucy_expr.specs.Trees.{turn_of, turns}
use Rattle.lucy_expr.specs.Shapes.{tree_of, turns_of_all}
use Rattle.lucy_expr.specs.declared.nodes.Node.{Node}
use Rattle.lucy_expr.specs.declared.turns.Turn.{Turn}

-- the tree that was put last comes first
pub turns_of_all-push : (stack : List (Bor Node)) (node : Bor Node) → turns_of_all (stack ++ node ∷ []) ≡ turns (tree_of node.now) ++ turns_of_all stack
turns_of_all-push [] node = sym (append-nil (turns (tree_of node.now)))
turns_of_all-push (first ∷ stack) node =
    ap (λ (ts : List Turn). ts ++ turns (tree_of first.now)) (turns_of_all-push stack node)
    ∙ append_assoc (turns (tree_of node.now)) (turns_of_all stack) (turns (tree_of first.now))

-- one node is taken from the stack, and its parts are put there
next_opened : (next : Bor Node) (stack left opened : List (Bor Node)) → stack ≡ left ++ next ∷ []
    → turn_of (tree_of next.now) ∷ turns_of_all opened ≡ turns (tree_of next.now) ++ turns_of_all left
    → turn_of (tree_of next.now) ∷ turns_of_all opened ≡ turns_of_all stack
next_opened next stack left opened is parts = parts ∙ sym (turns_of_all-push left next) ∙ ap turns_of_all (sym is)

pub flat_smaller : (next : Bor Node) (stack left opened : List (Bor Node)) → stack ≡ left ++ next ∷ []
    → turn_of (tree_of next.now) ∷ turns_of_all opened ≡ turns (tree_of next.now) ++ turns_of_all left
    → length (turns_of_all opened) < length (turns_of_all stack)
flat_smaller next stack left opened is parts =
    let same = ap length (next_opened next stack left opened is parts) in omega (arith, same)

pub flat_more : (done all : List Turn) (turn : Turn) (next : Bor Node) (stack left opened : List (Bor Node)) → stack ≡ left ++ next ∷ []
    → turn ≡ turn_of (tree_of next.now)
    → turn_of (tree_of next.now) ∷ turns_of_all opened ≡ turns (tree_of next.now) ++ turns_of_all left
    → done ++ turns_of_all stack ≡ all
    → (done ++ turn ∷ []) ++ turns_of_all opened ≡ all
flat_more done all turn next stack left opened is taken parts before =
    append_assoc done (turn ∷ []) (turns_of_all opened)
    ∙ ap (λ (t : Turn). done ++ (t ∷ turns_of_all opened)) taken
    ∙ ap (λ (ts : List Turn). done ++ ts) (next_opened next stack left opened is parts)
    ∙ before
