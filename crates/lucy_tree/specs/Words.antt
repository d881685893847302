-- The tokens that a tree keeps: a name with its bytes, or another token with its kind, each with its span.
use Rattle.std.specs.Prelude.{ℕ, List, [], ◌∷◌, ◌++◌, Option, Some, None}
use Rattle.lucy_lexer.specs.declared.token.TokenKind.{TokenKind}
use Rattle.lucy_lexer.specs.declared.token.TokenKind.TheVariants as k
use Rattle.lucy_tree.specs.declared.marks.Span.{Span}
use Rattle.lucy_tree.specs.declared.marks.Then.{Then}
use Rattle.lucy_tree.specs.declared.marks.Chain.{Chain}

pub data Word : Type 0 where
  called : List ℕ → Span → Word
  plain : TokenKind → Span → Word

abbrev pub kind_of : Word → TokenKind
kind_of (called text s) = k.Name
kind_of (plain kind s) = kind

abbrev pub span_of : Word → Span
span_of (called text s) = s
span_of (plain kind s) = s

abbrev pub Words : Type 0
Words = List Word

-- one token that is no name
abbrev pub one : TokenKind → Span → Words
one kind s = plain kind s ∷ []

-- a token that may be left out
abbrev pub maybe_one : TokenKind → Option Span → Words
maybe_one kind None = []
maybe_one kind (Some s) = one kind s

-- the words of each item, in order
abbrev pub each : {A : Type 0} → (A → Words) → List A → Words
each f [] = []
each f (x ∷ xs) = f x ++ each f xs

-- a mark and the words of the item after it
abbrev pub then_words : {A : Type 0} → TokenKind → (A → Words) → Then A → Words
then_words kind f t = one kind t.mark ++ f t.item

abbrev pub chain_words : {A : Type 0} → TokenKind → (A → Words) → Chain A → Words
chain_words kind f c = f c.first ++ each (then_words kind f) c.others

-- the words of what may be left out
abbrev pub maybe : {A : Type 0} → (A → Words) → Option A → Words
maybe f None = []
maybe f (Some x) = f x
