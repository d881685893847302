-- Classes of bytes, and the number that digits spell.
use Rattle.std.specs.Prelude.{ℕ, ◌+◌, ◌-◌, ◌*◌, Bool, not, ◌||◌, ◌==◌, List, fold}
use Rattle.std.specs.Char.{is_ascii_digit, is_ascii_alphabetic, is_ascii_alphanumeric}
use Rattle.std.specs.List.{prefix_len}
use Rattle.lucy_lexer.specs.declared.bytes.Class.{Class}
use Rattle.lucy_lexer.specs.declared.bytes.Class.TheVariants as class

abbrev pub Text : Type 0
Text = List ℕ

-- space, tab, CR and LF separate tokens; a name goes on with letters, digits and `_`; a comment with all but LF
abbrev pub is_in : Class → ℕ → Bool
is_in class.Blank b = b == 32 || b == 9 || b == 13 || b == 10
is_in class.Digit b = is_ascii_digit b
is_in class.Letter b = is_ascii_alphabetic b
is_in class.WordByte b = is_ascii_alphanumeric b || b == 95
is_in class.InLine b = not (b == 10)

-- how many bytes of a class stand at the front
abbrev pub run : Class → Text → ℕ
run c z = prefix_len (is_in c) z

abbrev pub with_digit : ℕ → ℕ → ℕ
with_digit n b = 10 * n + (b - 48)

-- the number that digits spell, the first digit the highest
abbrev pub value_of : Text → ℕ
value_of digits = fold with_digit 0 digits
