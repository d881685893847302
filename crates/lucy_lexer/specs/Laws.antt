-- Laws on the tokens of a text, in words of the text alone.
use Rattle.std.specs.Prelude.{◌≡◌, ℕ, ◌+◌, ◌-◌, ◌<◌, ◌≤◌, ◌^◌, ◌==◌, true, false, List, [], ◌∷◌, ◌++◌, take, drop, length, slice_index, None, Ok, Err, All}
use Rattle.lucy_lexer.specs.declared.bytes.Class.TheVariants as class
use Rattle.lucy_lexer.specs.declared.error.LexError.{LexError}
use Rattle.lucy_lexer.specs.declared.error.LexError.TheVariants.{OutOfMemory, BadByte, LongNumber, LongName}
use Rattle.lucy_lexer.specs.declared.token.Token.{Token}
use Rattle.lucy_lexer.specs.declared.token.TokenKind.{TokenKind}
use Rattle.lucy_lexer.specs.declared.token.TokenKind.TheVariants as k
use Rattle.lucy_lexer.specs.Kind.{is_kind, written}
use Rattle.lucy_lexer.specs.Bytes.{Text, is_in, run, value_of}
use Rattle.lucy_lexer.specs.Front.{reserved}
use Rattle.lucy_lexer.specs.Reading.{tokens_of}

-- kinds that `is_kind` calls the same are equal
abbrev pub EqualKinds : Type 0
EqualKinds = (a b : TokenKind) → is_kind a b ≡ true → a ≡ b

-- a letter and then letters, digits and `_`, at most 64 bytes, no reserved word
pub record IsName (z : Text) : Type 0 where
  pub letter : is_in class.Letter (slice_index z 0) ≡ true
  pub others : run class.WordByte z ≡ length z
  pub short : length z ≤ 64
  pub free : reserved z ≡ None

-- one or more digits, whose number is n, at most 2^62
pub record IsNumber (n : ℕ) (z : Text) : Type 0 where
  pub some : 0 < length z
  pub digits : run class.Digit z ≡ length z
  pub value : value_of z ≡ n
  pub small : n ≤ 2 ^ 62

-- the text is one of a token of this kind
abbrev pub Spells : TokenKind → Text → Type 0
Spells k.Name z = IsName z
Spells (k.Number n) z = IsNumber n z
Spells kind z = z ≡ written kind

-- each token has a byte at least, begins where the one before ends or later, and ends within the text
abbrev pub Ascends : ℕ → ℕ → List Token → Type 0
Ascends at end [] = at ≤ end
Ascends at end (t ∷ ts) = (at ≤ t.start) × (t.start < t.end) × Ascends t.end end ts

abbrev pub SpansAscend : Type 0
SpansAscend = (z : Text) (ts : List Token) → tokens_of z ≡ Ok ts → Ascends 0 (length z) ts

-- the bytes of a text that a token stands on
abbrev pub slice_of : Text → Token → Text
slice_of z t = take (t.end - t.start) (drop t.start z)

abbrev pub SlicesAreSpelled : Type 0
SlicesAreSpelled = (z : Text) (ts : List Token) → tokens_of z ≡ Ok ts → All (λ t. Spells t.kind (slice_of z t)) ts

-- whatever token the text spells at the same place is no longer
abbrev pub IsLongest : Text → Token → Type 0
IsLongest z t = (kind : TokenKind) (n : ℕ) → n ≤ length (drop t.start z) → Spells kind (take n (drop t.start z)) → n ≤ t.end - t.start

abbrev pub LongestIsTaken : Type 0
LongestIsTaken = (z : Text) (ts : List Token) → tokens_of z ≡ Ok ts → All (IsLongest z) ts

-- blanks, and comments from their `#` to their LF
pub data IsGap : Text → Type 0 where
  nothing : IsGap []
  blank : (b : ℕ) (z : Text) → is_in class.Blank b ≡ true → IsGap z → IsGap (b ∷ z)
  comment : (line z : Text) → run class.InLine line ≡ length line → IsGap z → IsGap (35 ∷ line ++ 10 ∷ z)

-- after the last token there may be a comment that the end of the text ends
pub data IsLastGap : Text → Type 0 where
  closed : (z : Text) → IsGap z → IsLastGap z
  unclosed : (z line : Text) → IsGap z → run class.InLine line ≡ length line → IsLastGap (z ++ 35 ∷ line)

-- what stands between the tokens of the text that begins at a place
abbrev pub Gaps : ℕ → Text → List Token → Type 0
Gaps at z [] = IsLastGap z
Gaps at z (t ∷ ts) = IsGap (take (t.start - at) z) × Gaps t.end (drop (t.end - at) z) ts

abbrev pub GapsAreSkipped : Type 0
GapsAreSkipped = (z : Text) (ts : List Token) → tokens_of z ≡ Ok ts → Gaps 0 z ts

-- a token to be written, and the separator after it: a space or an LF
pub data Separator : Type 0 where
  space : Separator
  line_end : Separator

abbrev pub separator_byte : Separator → ℕ
separator_byte space = 32
separator_byte line_end = 10

pub record Written : Type 0 where
  pub kind : TokenKind
  pub text : Text
  pub after : Separator

abbrev pub written_text : List Written → Text
written_text [] = []
written_text (w ∷ ws) = w.text ++ separator_byte w.after ∷ written_text ws

-- the tokens, placed one after the other from a place on
abbrev pub placed : ℕ → List Written → List Token
placed at [] = []
placed at (w ∷ ws) = record { kind = w.kind; start = at; end = at + length w.text } ∷ placed (at + length w.text + 1) ws

-- tokens that are written with a separator after each are read as they were written
abbrev pub SpacedTokensAreRead : Type 0
SpacedTokensAreRead = (ws : List Written) → All (λ w. Spells w.kind w.text) ws → tokens_of (written_text ws) ≡ Ok (placed 0 ws)

-- at the front stands a byte that is no blank and begins no comment and no token
pub record BeginsNothing (z : Text) : Type 0 where
  pub some : 0 < length z
  pub no_blank : is_in class.Blank (slice_index z 0) ≡ false
  pub no_comment : (slice_index z 0 == 35) ≡ false
  pub no_token : (kind : TokenKind) (n : ℕ) → Spells kind (take n z) → ⊥

-- at the front stands a number above 2^62
pub record BeginsLongNumber (z : Text) : Type 0 where
  pub digit : is_in class.Digit (slice_index z 0) ≡ true
  pub large : 2 ^ 62 < value_of (take (run class.Digit z) z)

-- at the front stands a name of more than 64 bytes
pub record BeginsLongName (z : Text) : Type 0 where
  pub letter : is_in class.Letter (slice_index z 0) ≡ true
  pub long : 64 < run class.WordByte z
  pub free : reserved (take (run class.WordByte z) z) ≡ None

-- the text up to a place is tokens, blanks and comments
abbrev pub IsReadTo : ℕ → Text → Type 0
IsReadTo at z = (ts : List Token) × (tokens_of (take at z) ≡ Ok ts)

-- all that stands before the place of a fault can be read, and what stands there cannot, for the reason that is told
abbrev pub IsFirst : LexError → Text → Type 0
IsFirst (BadByte at) z = IsReadTo at z × BeginsNothing (drop at z)
IsFirst (LongNumber at) z = IsReadTo at z × BeginsLongNumber (drop at z)
IsFirst (LongName at) z = IsReadTo at z × BeginsLongName (drop at z)
IsFirst OutOfMemory z = ⊥

abbrev pub FirstFaultIsTold : Type 0
FirstFaultIsTold = (z : Text) (e : LexError) → tokens_of z ≡ Err e → IsFirst e z
