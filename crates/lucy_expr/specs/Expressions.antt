-- What contracts see of an expression, and how it is told by numbers.
use Rattle.std.specs.Prelude.{◌≡◌, ◌⊎◌, ℕ, ℤ, List, [], ◌∷◌, refl}
use Rattle.std.specs.Coded.{Coded, code_by, coded×, coded⊎, coded_ℕ, coded_ℤ, coded_list}
use Rattle.std.proofs.Common.{inl, inr, ◌∙◌}
use base.Stored.{coded_unit}
use Rattle.lucy_expr.specs.Trees.{Tree, Start, Apply, Merge}

-- a tree is told as the list of its nodes, each after its parts: a start, a call with its id, or a merge
abbrev pub Mark : Type 0
Mark = Unit {0} ⊎ ((ℕ × (ℕ × (ℕ × List ℤ))) ⊎ Unit {0})

-- the marks of a tree, before others
abbrev pub marks : Tree → List Mark → List Mark
marks Start rest = inl tt ∷ rest
marks (Apply id call inner) rest = marks inner (inr (inl (id.replica, (id.count, (call.txn, call.arguments)))) ∷ rest)
marks (Merge left right) rest = marks left (marks right (inr (inr tt) ∷ rest))

-- the tree that is on top when all marks are read; those that were read and are no part yet are a stack
abbrev pub build : List Tree → List Mark → Tree
build [] [] = Start
build (tree ∷ stack) [] = tree
build stack (inl _ ∷ rest) = build (Start ∷ stack) rest
build [] (inr (inl p) ∷ rest) = Start
build (tree ∷ stack) (inr (inl p) ∷ rest) =
    build (Apply (record { replica = p.0; count = p.1.0 }) (record { txn = p.1.1.0; arguments = p.1.1.1 }) tree ∷ stack) rest
build [] (inr (inr _) ∷ rest) = Start
build (right ∷ []) (inr (inr _) ∷ rest) = Start
build (right ∷ left ∷ stack) (inr (inr _) ∷ rest) = build (Merge left right ∷ stack) rest

-- reading the marks of a tree gives the tree
pub build-marks : (tree : Tree) (stack : List Tree) (rest : List Mark) → build stack (marks tree rest) ≡ build (tree ∷ stack) rest
build-marks Start stack rest = refl
build-marks (Apply id call inner) stack rest = build-marks inner stack (inr (inl (id.replica, (id.count, (call.txn, call.arguments)))) ∷ rest)
build-marks (Merge left right) stack rest =
    build-marks left stack (marks right (inr (inr tt) ∷ rest)) ∙ build-marks right (left ∷ stack) (inr (inr tt) ∷ rest)

abbrev pub tree_code : Coded Tree
tree_code =
    code_by (List Mark) (coded_list (coded⊎ coded_unit (coded⊎ (coded× coded_ℕ (coded× coded_ℕ (coded× coded_ℕ (coded_list coded_ℤ)))) coded_unit)))
    (λ tree. marks tree []) (build []) (λ tree. build-marks tree [] [])

-- an expression: its tree, and for how many replicas it has room
pub record Expression : Type 0 where
  pub tree : Tree
  pub room : ℕ

abbrev pub expression_code : Coded Expression
expression_code = code_by (Tree × ℕ) (coded× tree_code coded_ℕ) (λ e. (e.tree, e.room)) (λ p. record { tree = p.0; room = p.1 }) (λ _. refl)
