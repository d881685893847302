-- The line of each fault. Want of memory is no fault of an input: no definition of what an input says gives it.
use Rattle.std.specs.Prelude.{ℕ, ◌+◌, List, [], codes}
use Rattle.lucy_plan.specs.declared.refusal.What.{What}
use Rattle.lucy_plan.specs.declared.refusal.What.TheVariants as what
use Rattle.lucy_lexer.specs.declared.error.LexError.{LexError}
use Rattle.lucy_lexer.specs.declared.error.LexError.TheVariants as lex
use Rattle.lucy_syntax.specs.declared.error.SyntaxError.{SyntaxError}
use Rattle.lucy_syntax.specs.declared.error.SyntaxError.TheVariants as syntax
use Rattle.lucy_gather.specs.declared.error.ElabError.{ElabError}
use Rattle.lucy_gather.specs.declared.error.ElabError.TheVariants as elab
use Rattle.lucy_calls.specs.declared.error.CallsError.{CallsError}
use Rattle.lucy_calls.specs.declared.error.CallsError.TheVariants as calls
use Rattle.lucy_reading.specs.Lines.{bad_byte, bad_line, bad_count}

-- the word for what a limit counts
abbrev pub word_of : What → List ℕ
word_of what.Bytes = codes "bytes"
word_of what.Leaves = codes "leaves"
word_of what.Coefficient = codes "coefficient"
word_of what.Constant = codes "constant"
word_of what.Conditions = codes "conditions"
word_of what.Transactions = codes "transactions"
word_of what.Arguments = codes "arguments"
word_of what.Segments = codes "segments"
word_of what.Points = codes "points"
word_of what.Depth = codes "depth"
word_of what.Replicas = codes "replicas"
word_of what.Calls = codes "calls"

-- an input with more bytes than its limit
unfoldable pub too_long : List ℕ → ℕ → List ℕ
too_long name most = bad_count name (most + 1) (codes "bytes")

-- a plan text that cannot be read as tokens
abbrev pub lexing_line : List ℕ → LexError → List ℕ
lexing_line name (lex.BadByte at) = bad_byte name at (codes "byte")
lexing_line name (lex.LongNumber at) = bad_byte name at (codes "long number")
lexing_line name (lex.LongName at) = bad_byte name at (codes "long name")
lexing_line name lex.OutOfMemory = []

-- a plan text that has no tree
abbrev pub syntax_line : List ℕ → SyntaxError → List ℕ
syntax_line name (syntax.Lex e) = lexing_line name e
syntax_line name (syntax.Syntax at) = bad_byte name at (codes "syntax")
syntax_line name (syntax.TooDeep at) = bad_byte name at (codes "too deep")
syntax_line name syntax.OutOfMemory = []

-- a tree that gives no plan
abbrev pub elaboration_line : List ℕ → ElabError → List ℕ
elaboration_line name (elab.Version at) = bad_byte name at (codes "version")
elaboration_line name (elab.UnknownName at) = bad_byte name at (codes "unknown name")
elaboration_line name (elab.Twice at) = bad_byte name at (codes "twice")
elaboration_line name (elab.Kind at) = bad_byte name at (codes "kind")
elaboration_line name (elab.NotLinear at) = bad_byte name at (codes "not linear")
elaboration_line name (elab.Range at) = bad_byte name at (codes "range")
elaboration_line name (elab.BadStart at) = bad_byte name at (codes "start")
elaboration_line name (elab.Limit counted count) = bad_count name count (word_of counted)
elaboration_line name elab.OutOfMemory = []

-- a work text or a step script; `form` is the word for a line that has not the form that its place needs
abbrev pub calls_line : List ℕ → List ℕ → CallsError → List ℕ
calls_line form name (calls.BadLine at) = bad_line name at form
calls_line form name (calls.BadReplica at) = bad_line name at (codes "replica")
calls_line form name (calls.UnknownTxn at) = bad_line name at (codes "transaction")
calls_line form name (calls.BadArgument at) = bad_line name at (codes "argument")
calls_line form name (calls.Limit counted count) = bad_count name count (word_of counted)
calls_line form name calls.OutOfMemory = []
