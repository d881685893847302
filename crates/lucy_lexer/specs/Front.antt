-- What stands at the front of a text that is not empty: a blank, a comment, the longest token, or the reason why none does.
use Rattle.std.specs.Prelude.{ℕ, ◌≤◌, ◌+◌, if◌then◌else◌, ◌==◌, nat_le, nat_lt, List, [], ◌∷◌, take, map, length, slice_index, Option, Some, None, ◌^◌}
use Rattle.std.specs.Str.{bytes_eq}
use Rattle.lucy_lexer.specs.declared.front.Front.{Front}
use Rattle.lucy_lexer.specs.declared.front.Front.TheVariants as front
use Rattle.lucy_lexer.specs.declared.bytes.Class.TheVariants as class
use Rattle.lucy_lexer.specs.declared.token.TokenKind.{TokenKind}
use Rattle.lucy_lexer.specs.declared.token.TokenKind.TheVariants as k
use Rattle.lucy_lexer.specs.declared.token.TheConstants.{WORDS, PAIR_SIGNS, SINGLE_SIGNS}
use Rattle.lucy_lexer.specs.Bytes.{Text, is_in, run, value_of}

-- what is passed has at least a byte, and ends within the text
abbrev pub IsWithin : Text → Front → Type 0
IsWithin z (front.Skipped n) = (1 ≤ n) × (n ≤ length z)
IsWithin z (front.Found kind n) = (1 ≤ n) × (n ≤ length z)
IsWithin z front.BadByte = Unit {0}
IsWithin z front.LongNumber = Unit {0}
IsWithin z front.LongName = Unit {0}

abbrev pub lookup : List (Text × TokenKind) → Text → Option TokenKind
lookup [] word = None
lookup (e ∷ es) word = if bytes_eq e.0 word then Some e.1 else lookup es word

-- the reserved words, the signs of two bytes and those of one
abbrev pub words : List (Text × TokenKind)
words = map (λ e. (e.0.now, e.1)) WORDS

abbrev pub pairs : List (Text × TokenKind)
pairs = map (λ e. (e.0.now, e.1)) PAIR_SIGNS

abbrev pub singles : List (Text × TokenKind)
singles = map (λ e. (e.0.now, e.1)) SINGLE_SIGNS

unfoldable pub reserved : Text → Option TokenKind
reserved = lookup words

-- a word that is not reserved is a name, and a name has at most 64 bytes
abbrev pub named : ℕ → Option TokenKind → Front
named len (Some kind) = front.Found kind len
named len None = if nat_le len 64 then front.Found k.Name len else front.LongName

-- after a letter: as many letters, digits and `_` as there are
unfoldable pub word : Text → Front
word z = named (run class.WordByte z) (reserved (take (run class.WordByte z) z))

-- after a digit: as many digits as there are; their number is at most 2^62
unfoldable pub digits : Text → Front
digits z =
    let len = run class.Digit z in
    let value = value_of (take len z) in
    if nat_le value (2 ^ 62) then front.Found (k.Number value) len else front.LongNumber

-- a sign of this length, or else the other
abbrev pub found : ℕ → Option TokenKind → Front → Front
found len (Some kind) other = front.Found kind len
found len None other = other

unfoldable pub pair_sign : Text → Option TokenKind
pair_sign (a ∷ b ∷ z) = lookup pairs (a ∷ b ∷ [])
pair_sign _ = None

-- a sign of two bytes comes before one of a single byte
unfoldable pub sign : Text → Front
sign z = found 2 (pair_sign z) (found 1 (lookup singles (slice_index z 0 ∷ [])) front.BadByte)

-- a comment goes on up to the next LF, or else to the end of the text
unfoldable pub comment_len : Text → ℕ
comment_len z = let line = run class.InLine z in if nat_lt line (length z) then line + 1 else line

-- 35 is `#`
unfoldable pub foremost : Text → Front
foremost z =
    let first = slice_index z 0 in
    if is_in class.Blank first then front.Skipped 1
    else (if first == 35 then front.Skipped (comment_len z)
    else (if is_in class.Letter first then word z
    else (if is_in class.Digit first then digits z else sign z)))
