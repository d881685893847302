-- How the text of an expression is written, node by node from the outside inward.
use Rattle.std.specs.Prelude.{ℕ, ◌<◌, List, [], ◌∷◌, ◌++◌, length, codes}
use Rattle.lucy_expr.specs.declared.turns.Turn.{Turn}
use Rattle.lucy_expr.specs.declared.turns.Turn.TheVariants as turn
use Rattle.lucy_report.specs.ExpressionTexts.{call_words}
use Rattle.lucy_report.specs.declared.expression_lines.Open.{Open}
use Rattle.lucy_report.specs.declared.expression_lines.Open.TheVariants.{Last, Left}

-- what stands behind a whole expression, up to the next one: a parenthesis for each node of which it is the last part, and a space behind a left part
abbrev pub closing : List Open → List ℕ
closing [] = []
closing (Last ∷ pending) = codes ")" ++ closing pending
closing (Left ∷ pending) = codes " "

-- the nodes that are open behind a whole expression
abbrev pub still_open : List Open → List Open
still_open [] = []
still_open (Last ∷ pending) = still_open pending
still_open (Left ∷ pending) = Last ∷ pending

-- the text of these nodes, where those nodes are open, the innermost first
abbrev pub text_on : List (List ℕ) → List Open → List Turn → List ℕ
text_on names pending [] = []
text_on names pending (turn.Start ∷ turns) = codes "start" ++ closing pending ++ text_on names (still_open pending) turns
text_on names pending (turn.Apply id call ∷ turns) = call_words names id.replica call ++ text_on names (Last ∷ pending) turns
text_on names pending (turn.Merge ∷ turns) = codes "(merge " ++ text_on names (Left ∷ pending) turns

-- a node that is a call is of a transaction that has one of these names
abbrev pub IsTurnNamed : List (List ℕ) → Turn → Type 0
IsTurnNamed names turn.Start = Unit {0}
IsTurnNamed names (turn.Apply id call) = call.txn < length names
IsTurnNamed names turn.Merge = Unit {0}
