-- What a session of labels writes.
use Rattle.std.specs.Prelude.{ℕ, ℤ, List, [], ◌∷◌, ◌++◌, Option, Some, None, codes, decimal}
use Rattle.lucy_expr.specs.Expressions.{Expression}
use Rattle.lucy_expr.specs.Trees.{Tree}
use Rattle.lucy_report.specs.ExpressionTexts.{expression_text}
use Rattle.lucy_report.specs.StepTexts.{state_text}
use Rattle.lucy_session.specs.declared.answers.LabelError.{LabelError}
use Rattle.lucy_session.specs.declared.answers.LabelError.TheVariants.{BadLabel, AlreadyReachable, TooMany, NotReached, OtherState, OutOfMemory}

-- two states whose merge breaks the invariant
unfoldable pub pair_line : List ℤ → List ℤ → List ℕ
pair_line left right = codes "pair " ++ state_text left ++ codes " " ++ state_text right ++ codes "\n"

-- a line of an expression, behind this word
unfoldable pub expression_line : List ℕ → List (List ℕ) → Tree → List ℕ
expression_line word names tree = word ++ codes " " ++ expression_text names tree ++ codes "\n"

-- what was found for a state, if something was
abbrev pub found_line : List ℕ → List (List ℕ) → Option Expression → List ℕ
found_line word names None = []
found_line word names (Some e) = expression_line word names e.tree

-- what was found for both states of a pair
unfoldable pub found_lines : List (List ℕ) → Option Expression × Option Expression → List ℕ
found_lines names found = found_line (codes "found left") names found.0 ++ found_line (codes "found right") names found.1

-- the call of this number is the first that breaks the invariant
unfoldable pub not_reached : ℕ → List ℕ
not_reached at = codes "not reached at " ++ decimal at

-- why a label is refused; want of memory is no refusal
abbrev pub refusal_words : LabelError → List ℕ
refusal_words BadLabel = codes "bad label"
refusal_words AlreadyReachable = codes "already reachable"
refusal_words TooMany = codes "too many"
refusal_words (NotReached at) = not_reached at
refusal_words OtherState = codes "other state"
refusal_words OutOfMemory = []

unfoldable pub refused_line : LabelError → List ℕ
refused_line e = codes "refused: " ++ refusal_words e ++ codes "\n"

-- the input ended while a pair was shown
unfoldable pub undecided : List ℕ
undecided = codes "undecided\n"

-- states, each behind a space
abbrev pub spaced_states : List (List ℤ) → List ℕ
spaced_states [] = []
spaced_states (state ∷ states) = codes " " ++ state_text state ++ spaced_states states

-- the plan is confluent, if none of these states is reached
unfoldable pub confluent_if : List (List ℤ) → List ℕ
confluent_if states = codes "confluent if unreachable:" ++ spaced_states states ++ codes "\n"

-- the plan is confluent, if none of the states that were excluded is reached
abbrev pub confluent : List (List ℤ) → List ℕ
confluent [] = codes "confluent\n"
confluent (state ∷ states) = confluent_if (state ∷ states)

-- the plan is not confluent: two expressions that are reached, whose merge breaks the invariant
unfoldable pub not_confluent : List (List ℕ) → Tree → Tree → List ℕ
not_confluent names left right = codes "not confluent\n" ++ expression_line (codes "left") names left ++ expression_line (codes "right") names right
