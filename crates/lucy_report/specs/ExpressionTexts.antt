-- The text of an expression.
use Rattle.std.specs.Prelude.{ℕ, ℤ, ◌<◌, List, [], ◌∷◌, ◌++◌, length, codes, decimal}
use Rattle.std.specs.Fmt.{signed_decimal}
use Rattle.lucy_names.specs.Tables.{name_at}
use Rattle.lucy_plan.specs.declared.parts.Call.{Call}
use Rattle.lucy_expr.specs.Trees.{Tree, Start, Apply, Merge}

-- numbers, each behind a space
abbrev pub spaced_numbers : List ℤ → List ℕ
spaced_numbers [] = []
spaced_numbers (x ∷ xs) = codes " " ++ signed_decimal x ++ spaced_numbers xs

-- a call of a replica, and the space before what it is applied to
unfoldable pub call_words : List (List ℕ) → ℕ → Call → List ℕ
call_words names replica call = codes "(do " ++ decimal replica ++ codes " " ++ name_at names call.txn ++ spaced_numbers call.arguments ++ codes " "

-- an expression, with these names of transactions: the start, a call on an expression, or a merge of two
abbrev pub expression_text : List (List ℕ) → Tree → List ℕ
expression_text names Start = codes "start"
expression_text names (Apply id call inner) = call_words names id.replica call ++ expression_text names inner ++ codes ")"
expression_text names (Merge left right) = codes "(merge " ++ expression_text names left ++ codes " " ++ expression_text names right ++ codes ")"

-- each call in it is of a transaction that has one of these names
abbrev pub IsNamed : List (List ℕ) → Tree → Type 0
IsNamed names Start = Unit {0}
IsNamed names (Apply id call inner) = (call.txn < length names) × IsNamed names inner
IsNamed names (Merge left right) = IsNamed names left × IsNamed names right
