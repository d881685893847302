-- Words that can be written.
use Rattle.std.proofs.Common.{◌≡◌, Bool, true, false, [], ◌∷◌, ◌++◌, refl, arith}
use Rattle.std.specs.Prelude.{codes}
use Rattle.std.specs.List.{AllByRecursion}
use Rattle.lucy_lexer.specs.declared.token.TokenKind.{TokenKind}
use Rattle.lucy_lexer.specs.declared.token.TokenKind.TheVariants as k
use Rattle.lucy_lexer.specs.Bytes.{Text}
use Rattle.lucy_lexer.specs.Front.{reserved}
use Rattle.lucy_lexer.specs.Kind.{is_kind, written}
use Rattle.lucy_lexer.specs.Laws.{IsName, Spells}
use Rattle.lucy_tree.specs.declared.marks.Span.{Span}
use Rattle.lucy_tree.specs.declared.marks.Name.{Name}
use Rattle.lucy_tree.specs.declared.marks.Number.{Number}
use Rattle.lucy_tree.specs.Words.{Word, Words, called, plain}
use Rattle.lucy_syntax.specs.Input.{word_by}

-- a text is one of a token of this kind, and no name
pub record IsPlain (kind : TokenKind) : Type 0 where
  pub text : Text
  pub spells : Spells kind text
  pub stays : (whole : Text) (s : Span) → word_by whole s kind ≡ plain kind s

-- the word can be written
abbrev pub Proper : Word → Type 0
Proper (called text s) = IsName text
Proper (plain kind s) = IsPlain kind

-- signs and reserved words
abbrev pub is_sign : TokenKind → Bool
is_sign k.Name = false
is_sign (k.Number n) = false
is_sign kind = true

pub sign_is_no_name : (kind : TokenKind) → is_sign kind ≡ true → is_kind k.Name kind ≡ false
sign_is_no_name k.Name h = absurd cc
sign_is_no_name (k.Number n) h = refl
sign_is_no_name kind h = refl

pub sign_is_plain : (kind : TokenKind) → is_sign kind ≡ true → IsPlain kind
sign_is_plain k.Name h = absurd cc
sign_is_plain (k.Number n) h = absurd cc
sign_is_plain kind h = record { text = written kind; spells = refl; stays = λ whole s. refl }

-- ---- a name and a number

abbrev pub nowhere : Span
nowhere = record { start = 0; end = 0 }

abbrev pub some_name : Name
some_name = record { text = codes "x"; span = nowhere }

abbrev pub some_number : Number
some_number = record { value = 0; span = nowhere }

pub some_name_proper : IsName (codes "x")
unfolding reserved
some_name_proper = record { letter = refl; others = refl; short = omega arith; free = refl }

pub some_number_proper : IsPlain (k.Number 0)
some_number_proper = record { text = codes "0"; spells = record { some = omega arith; digits = refl; value = refl; small = omega arith }; stays = λ whole s. refl }

-- ---- lists

pub all_both : (us vs : Words) → AllByRecursion Proper us → AllByRecursion Proper vs → AllByRecursion Proper (us ++ vs)
all_both [] vs all others = others
all_both (u ∷ us) vs all others = (all.0, all_both us vs all.1 others)
