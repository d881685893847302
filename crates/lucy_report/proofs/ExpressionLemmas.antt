-- The nodes of an expression, in their order, give its text.
use Rattle.std.proofs.Common.{◌≡◌, ℕ, List, [], ◌∷◌, ◌++◌, ap, ◌∙◌, append_assoc, append-nil, reverse, sym}
use Rattle.std.specs.Prelude.{codes}
use Rattle.std.specs.List.{All}
use Rattle.std.proofs.lemmas.List.{reverse-append}
use Rattle.std.proofs.lemmas.List.Elements.{All-cons, All-append, All-nil}
use Rattle.lucy_expr.specs.Trees.{Tree, Start, Apply, Merge, turns}
use Rattle.lucy_expr.specs.declared.turns.Turn.{Turn}
use Rattle.lucy_expr.specs.declared.turns.Turn.TheVariants as turn
use Rattle.lucy_report.specs.ExpressionSteps.{closing, still_open, text_on, IsTurnNamed}
use Rattle.lucy_report.specs.ExpressionTexts.{call_words, expression_text, IsNamed}
use Rattle.lucy_report.specs.declared.expression_lines.Open.{Open}
use Rattle.lucy_report.specs.declared.expression_lines.Open.TheVariants.{Last, Left}

-- the nodes of an expression give its text and what stands behind it
text_of_nodes : (names : List (List ℕ)) (pending : List Open) (tree : Tree) (rest : List Turn)
    → text_on names pending (turns tree ++ rest) ≡ expression_text names tree ++ (closing pending ++ text_on names (still_open pending) rest)
text_of_nodes names pending Start rest = append_assoc (codes "start") (closing pending) (text_on names (still_open pending) rest)
text_of_nodes names pending (Apply id call inner) rest =
    let words = call_words names id.replica call in
    let after = text_on names (still_open pending) rest in
    ap (λ (text : List ℕ). words ++ text) (text_of_nodes names (Last ∷ pending) inner rest)
    ∙ behind words (expression_text names inner) (codes ")") (closing pending) after
  where
    behind : (a b c d e : List ℕ) → a ++ (b ++ ((c ++ d) ++ e)) ≡ ((a ++ b) ++ c) ++ (d ++ e)
    behind a b c d e = simp append_assoc
text_of_nodes names pending (Merge left right) rest =
    let words = codes "(merge " in
    let after = text_on names (still_open pending) rest in
    ap (λ (ts : List Turn). words ++ text_on names (Left ∷ pending) ts) (append_assoc (turns left) (turns right) rest)
    ∙ ap (λ (text : List ℕ). words ++ text) (text_of_nodes names (Left ∷ pending) left (turns right ++ rest))
    ∙ ap (λ (text : List ℕ). words ++ (expression_text names left ++ (codes " " ++ text))) (text_of_nodes names (Last ∷ pending) right rest)
    ∙ behind words (expression_text names left) (codes " ") (expression_text names right) (codes ")") (closing pending) after
  where
    behind : (a b c d e f g : List ℕ) → a ++ (b ++ (c ++ (d ++ ((e ++ f) ++ g)))) ≡ ((((a ++ b) ++ c) ++ d) ++ e) ++ (f ++ g)
    behind a b c d e f g = simp append_assoc

pub text_of_tree : (names : List (List ℕ)) (tree : Tree) → text_on names [] (turns tree) ≡ expression_text names tree
text_of_tree names tree =
    ap (text_on names []) (sym (append-nil (turns tree))) ∙ text_of_nodes names [] tree [] ∙ append-nil (expression_text names tree)

pub nodes_named : (names : List (List ℕ)) (tree : Tree) → IsNamed names tree → All (IsTurnNamed names) (turns tree)
nodes_named names Start named = All-cons (IsTurnNamed names) turn.Start [] tt (All-nil (IsTurnNamed names))
nodes_named names (Apply id call inner) (within, named) = All-cons (IsTurnNamed names) (turn.Apply id call) (turns inner) within (nodes_named names inner named)
nodes_named names (Merge left right) (first, second) =
    All-cons (IsTurnNamed names) turn.Merge (turns left ++ turns right) tt
    (All-append (IsTurnNamed names) (turns left) (turns right) (nodes_named names left first) (nodes_named names right second))

pub reverse-push : (pending : List Open) (innermost : Open) → reverse (pending ++ innermost ∷ []) ≡ innermost ∷ reverse pending
reverse-push pending innermost = reverse-append pending (innermost ∷ [])
