-- A place in the list of tokens, and the steps that every rule is made of.
use Rattle.std.specs.Prelude.{◌≡◌, ◌≢◌, ℕ, ◌-◌, ◌==◌, ◌&&◌, Bool, true, false, if◌then◌else◌, nat_le, List, [], ◌∷◌, length, map, take, drop, Option, Some, None, Result, Ok, Err, refl}
use Rattle.std.specs.List.{list_any}
use Rattle.std.specs.Coded.{Coded, code_by, coded×, coded_bool, coded_ℕ, coded_list}
use Rattle.lucy_io.specs.Outcomes as outcomes
use Rattle.lucy_io.specs.Steps.{Step, Gives}
pub use Rattle.lucy_io.specs.Steps.{and_then, ◌>>=◌, pure}
use Rattle.lucy_lexer.specs.declared.token.Token.{Token}
use Rattle.lucy_lexer.specs.declared.token.TokenKind.{TokenKind}
use Rattle.lucy_lexer.specs.declared.token.TokenKind.TheVariants as k
use Rattle.lucy_lexer.specs.contracts.token.Token as token_row
use Rattle.lucy_lexer.specs.Kind.{is_kind}
use Rattle.lucy_tree.specs.declared.marks.Span.{Span}
use Rattle.lucy_tree.specs.declared.marks.Name.{Name}
use Rattle.lucy_tree.specs.declared.marks.Number.{Number}
use Rattle.lucy_tree.specs.Words.{Word, called, plain, kind_of, span_of}
use Rattle.lucy_syntax.specs.declared.error.SyntaxError.{SyntaxError}
use Rattle.lucy_syntax.specs.declared.error.SyntaxError.TheVariants.{OutOfMemory, Syntax, TooDeep}

-- the tokens that are left, and the length of the text
pub record Input : Type 0 where
  pub words : List Word
  pub end : ℕ

abbrev pub input_of : List Word → ℕ → Input
input_of words end = record { words = words; end = end }

-- ---- the words of a text

abbrev pub span_at : Token → Span
span_at t = record { start = t.start; end = t.end }

-- the bytes of a span, and none for a span that is not in the text
unfoldable pub part : Span → List ℕ → List ℕ
part s text = if nat_le s.start s.end && nat_le s.end (length text) then take (s.end - s.start) (drop s.start text) else []

abbrev pub word_by : List ℕ → Span → TokenKind → Word
word_by text s k.Name = called (part s text) s
word_by text s kind = plain kind s

abbrev pub word_of : List ℕ → Token → Word
word_of text t = word_by text (span_at t) t.kind

abbrev pub words_of : List ℕ → List Token → List Word
words_of text = map (word_of text)

-- ---- how an input is coded

abbrev pub Coding : Type 0
Coding = Bool × (List ℕ × Token)

abbrev pub coding_of : Word → Coding
coding_of (called text s) = (true, (text, record { kind = k.Name; start = s.start; end = s.end }))
coding_of (plain kind s) = (false, ([], record { kind = kind; start = s.start; end = s.end }))

abbrev pub coded_by : Bool → List ℕ → Token → Word
coded_by true text t = called text (span_at t)
coded_by false text t = plain t.kind (span_at t)

abbrev pub word_again : (w : Word) → coded_by (coding_of w).0 (coding_of w).1.0 (coding_of w).1.1 ≡ w
word_again (called text s) = refl
word_again (plain kind s) = refl

abbrev pub word_code : Coded Word
word_code = code_by Coding (coded× coded_bool (coded× (coded_list coded_ℕ) token_row.the_row.coded)) coding_of (λ c. coded_by c.0 c.1.0 c.1.1) word_again

abbrev pub input_code : Coded Input
input_code = code_by (List Word × ℕ) (coded× (coded_list word_code) coded_ℕ) (λ i. (i.words, i.end)) (λ p. input_of p.0 p.1) (λ _. refl)

-- ---- parsers: a value and the input after it, or the place where the reading stops

abbrev pub Outcome : Type 0 → Type 0
Outcome A = outcomes.Outcome SyntaxError (A × Input)

abbrev pub Parser : Type 0 → Type 0
Parser A = Step SyntaxError Input A

-- the start of the next token, or the end of the text
abbrev pub here_in : List Word → ℕ → ℕ
here_in [] end = end
here_in (w ∷ ws) end = (span_of w).start

unfoldable pub here : Input → ℕ
here i = here_in i.words i.end

unfoldable pub refusal : Input → SyntaxError
refusal i = Syntax (here i)

-- the reading stops here
abbrev pub refuse : {A : Type 0} → Parser A
refuse = λ i. Err (refusal i)

-- ---- the next token

abbrev pub kind_in : List Word → Option TokenKind
kind_in [] = None
kind_in (w ∷ ws) = Some (kind_of w)

unfoldable pub peek : Input → Option TokenKind
peek i = kind_in i.words

abbrev pub look : Parser (Option TokenKind)
look = λ i. Ok (peek i, i)

-- the next token is read if it is of this kind
abbrev pub eat_in : TokenKind → List Word → ℕ → Outcome (Option Span)
eat_in kind [] end = Ok (None, input_of [] end)
eat_in kind (w ∷ ws) end = if is_kind (kind_of w) kind then Ok (Some (span_of w), input_of ws end) else Ok (None, input_of (w ∷ ws) end)

unfoldable pub eat : TokenKind → Parser (Option Span)
eat kind i = eat_in kind i.words i.end

-- the next token has to be of this kind
abbrev pub expected : Option Span → Parser Span
expected (Some s) = pure s
expected None = refuse

unfoldable pub expect : TokenKind → Parser Span
expect kind = eat kind >>= expected

-- whether the next token is of one of these kinds; nothing is read
abbrev pub ahead_in : List TokenKind → List Word → ℕ → Outcome (Option Span)
ahead_in kinds [] end = Ok (None, input_of [] end)
ahead_in kinds (w ∷ ws) end = if list_any (is_kind (kind_of w)) kinds then Ok (Some (span_of w), input_of (w ∷ ws) end) else Ok (None, input_of (w ∷ ws) end)

unfoldable pub ahead : List TokenKind → Parser (Option Span)
ahead kinds i = ahead_in kinds i.words i.end

abbrev pub name_in : List Word → ℕ → Outcome Name
name_in [] end = Err (Syntax end)
name_in (called text s ∷ ws) end = Ok (record { text = text; span = s }, input_of ws end)
name_in (plain kind s ∷ ws) end = Err (Syntax s.start)

unfoldable pub name : Parser Name
name i = name_in i.words i.end

abbrev pub number_in : List Word → ℕ → Outcome Number
number_in [] end = Err (Syntax end)
number_in (called text s ∷ ws) end = Err (Syntax s.start)
number_in (plain (k.Number value) s ∷ ws) end = Ok (record { value = value; span = s }, input_of ws end)
number_in (plain kind s ∷ ws) end = Err (Syntax s.start)

unfoldable pub number : Parser Number
number i = number_in i.words i.end

-- a token that opens a nesting; `depth` more may be opened
unfoldable pub opened : ℕ → TokenKind → Parser Span
opened depth kind = λ i. if depth == 0 then Err (TooDeep (here i)) else expect kind i

-- ---- what a function that parses ensures: the parser's outcome, unless memory ran out

abbrev pub Reads : {A : Type 0} → Outcome A → Result A SyntaxError → Input → Type 0
Reads = Gives OutOfMemory
