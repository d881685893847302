-- The tree of a text, or why it has none.
use Rattle.std.specs.Prelude.{◌≡◌, ◌≢◌, ℕ, List, [], ◌∷◌, length, Result, Ok, Err}
use Rattle.lucy_lexer.specs.Reading.{Tokens, tokens_of}
use Rattle.lucy_lexer.specs.declared.token.Token.{Token}
use Rattle.lucy_tree.specs.declared.plans.Tree.{Tree}
use Rattle.lucy_tree.specs.Words.{Word, span_of}
use Rattle.lucy_syntax.specs.declared.error.SyntaxError.{SyntaxError}
use Rattle.lucy_syntax.specs.declared.error.SyntaxError.TheVariants.{OutOfMemory, Lex, Syntax}
use Rattle.lucy_syntax.specs.Input.{Outcome, input_of, words_of}
use Rattle.lucy_syntax.specs.Plans.{plan}

-- after the `end` of a plan the reading stops at the next token, if there is one
abbrev pub only : Tree → List Word → Result Tree SyntaxError
only tree [] = Ok tree
only tree (w ∷ ws) = Err (Syntax (span_of w).start)

abbrev pub ended : Outcome Tree → Result Tree SyntaxError
ended (Ok p) = only p.0 p.1.words
ended (Err e) = Err e

-- the tree of a text's tokens
unfoldable pub read : List ℕ → List Token → Result Tree SyntaxError
read text tokens = ended (plan (input_of (words_of text tokens) (length text)))

abbrev pub lexed : List ℕ → Tokens → Result Tree SyntaxError
lexed text (Ok tokens) = read text tokens
lexed text (Err e) = Err (Lex e)

-- what a text means: its tree, or its first fault
unfoldable pub tree_of : List ℕ → Result Tree SyntaxError
tree_of text = lexed text (tokens_of text)

-- what `parse` answers: the tree or the fault, unless memory ran out
abbrev pub Parses : Result Tree SyntaxError → Result Tree SyntaxError → Type 0
Parses (Ok tree) meant = meant ≡ Ok tree
Parses (Err e) meant = e ≢ OutOfMemory → meant ≡ Err e
