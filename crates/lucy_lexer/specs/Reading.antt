-- The tokens of a text, from left to right, or its first fault.
use Rattle.std.specs.Prelude.{◌≡◌, ◌≢◌, ℕ, zero, suc, ◌+◌, ◌-◌, List, [], ◌∷◌, Result, Ok, Err}
use Rattle.std.specs.declared.vec.Vec.{Vec}
use Rattle.std.specs.declared.alloc.Global.{Global}
use Rattle.lucy_lexer.specs.declared.error.LexError.{LexError}
use Rattle.lucy_lexer.specs.declared.error.LexError.TheVariants.{OutOfMemory, BadByte, LongNumber, LongName}
use Rattle.lucy_lexer.specs.declared.token.Token.{Token}
use Rattle.lucy_lexer.specs.declared.front.Front.{Front}
use Rattle.lucy_lexer.specs.declared.front.Front.TheVariants as front
use Rattle.lucy_lexer.specs.Bytes.{Text}
use Rattle.lucy_lexer.specs.Front.{foremost}

abbrev pub Tokens : Type 0
Tokens = Result (List Token) LexError

abbrev pub before : Tokens → Token → Tokens
before (Ok ts) t = Ok (t ∷ ts)
before (Err e) t = Err e

-- how many bytes what was found takes
abbrev pub len_of : Front → ℕ
len_of (front.Skipped n) = n
len_of (front.Found kind n) = n
len_of front.BadByte = 0
len_of front.LongNumber = 0
len_of front.LongName = 0

-- what was found at a place, and then the tokens after it; a fault ends the text
abbrev pub followed : ℕ → Front → Tokens → Tokens
followed at (front.Skipped n) others = others
followed at (front.Found kind n) others = before others (record { kind = kind; start = at; end = at + n })
followed at front.BadByte others = Err (BadByte at)
followed at front.LongNumber others = Err (LongNumber at)
followed at front.LongName others = Err (LongName at)

-- the tokens of the text that begins at the place `at`; `left` bytes of it belong to what was found before and are passed
abbrev pub tokens_from : ℕ → ℕ → Text → Tokens
tokens_from at left [] = Ok []
tokens_from at (suc left) (b ∷ z) = tokens_from (at + 1) left z
tokens_from at zero (b ∷ z) = followed at (foremost (b ∷ z)) (tokens_from (at + 1) (len_of (foremost (b ∷ z)) - 1) z)

unfoldable pub tokens_of : Text → Tokens
tokens_of z = tokens_from 0 0 z

-- what `lex` answers: the tokens or the fault, unless memory ran out
abbrev pub Lexes : Result (Vec Token Global) LexError → Tokens → Type 0
Lexes (Ok v) read = read ≡ Ok v.items
Lexes (Err e) read = e ≢ OutOfMemory → read ≡ Err e
