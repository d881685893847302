-- Laws of faults: the place that is told is exact. Some text that is read begins with the words before it, and none with those words and the word at it.
use Rattle.std.specs.Prelude.{◌≡◌, ◌⊎◌, ℕ, ◌≤◌, List, [], ◌∷◌, ◌++◌, length, Ok, Err}
use Rattle.lucy_lexer.specs.declared.token.Token.{Token}
use Rattle.lucy_lexer.specs.Reading.{tokens_of}
use Rattle.lucy_tree.specs.declared.plans.Tree.{Tree}
use Rattle.lucy_tree.specs.Words.{Word, Words, called, plain, span_of}
use Rattle.lucy_tree.specs.Spelling.{spelling}
use Rattle.lucy_tree.specs.Nesting.{nesting}
use Rattle.lucy_syntax.specs.declared.error.SyntaxError.{SyntaxError}
use Rattle.lucy_syntax.specs.declared.error.SyntaxError.TheVariants.{Syntax, TooDeep}
use Rattle.lucy_syntax.specs.Input.{here_in, words_of}
use Rattle.lucy_syntax.specs.Parsing.{tree_of}

-- the same word, its place aside
abbrev pub IsSame : Word → Word → Type 0
IsSame (called text s) (called text' s') = text ≡ text'
IsSame (plain kind s) (plain kind' s') = kind ≡ kind'
IsSame (called text s) (plain kind s') = ⊥
IsSame (plain kind s) (called text s') = ⊥

-- the same words, their places aside
abbrev pub AreSame : Words → Words → Type 0
AreSame [] [] = Unit {0}
AreSame [] (u ∷ us) = ⊥
AreSame (w ∷ ws) [] = ⊥
AreSame (w ∷ ws) (u ∷ us) = IsSame w u × AreSame ws us

-- the second words begin with the first, places aside
abbrev pub Begins : Words → Words → Type 0
Begins [] us = Unit {0}
Begins (w ∷ ws) [] = ⊥
Begins (w ∷ ws) (u ∷ us) = IsSame w u × Begins ws us

-- a text whose words are those of a tree, places aside, is read as a tree
abbrev pub SameWordsAreRead : Type 0
SameWordsAreRead = (text : List ℕ) (tokens : List Token) (tree : Tree) → nesting tree ≤ 64 → tokens_of text ≡ Ok tokens → AreSame (words_of text tokens) (spelling tree)
    → (again : Tree) × (tree_of text ≡ Ok again)

-- where this fault is told at the place of a word, no tree begins with the words before it and with that word, places aside
abbrev pub NoneGoesOn : (ℕ → SyntaxError) → Type 0
NoneGoesOn fault = (text : List ℕ) (tokens : List Token) (before after : Words) (word : Word) (tree : Tree) → tokens_of text ≡ Ok tokens → words_of text tokens ≡ before ++ word ∷ after
    → tree_of text ≡ Err (fault (span_of word).start) → nesting tree ≤ 64 → Begins (before ++ word ∷ []) (spelling tree) → ⊥

-- where the reading stops
abbrev pub NoTreeGoesOn : Type 0
NoTreeGoesOn = NoneGoesOn Syntax

-- where too many are open
abbrev pub NoTreeGoesDeeper : Type 0
NoTreeGoesDeeper = NoneGoesOn TooDeep

-- some text that is read begins, places aside, with the words before the place that is told, which is the start of the first word that is left, or the text's length
pub record GoesOn (text : List ℕ) (tokens : List Token) (e : SyntaxError) : Type 0 where
  pub before : Words
  pub rest : Words
  pub words : words_of text tokens ≡ before ++ rest
  pub told : (e ≡ Syntax (here_in rest (length text))) ⊎ (e ≡ TooDeep (here_in rest (length text)))
  pub other : List ℕ
  pub others : List Token
  pub lexes : tokens_of other ≡ Ok others
  pub begins : Begins before (words_of other others)
  pub tree : Tree
  pub reads : tree_of other ≡ Ok tree

-- where a text has tokens and no tree, some text that is read goes on as it does up to the place that is told
abbrev pub SomeTextGoesOn : Type 0
SomeTextGoesOn = (text : List ℕ) (tokens : List Token) (e : SyntaxError) → tokens_of text ≡ Ok tokens → tree_of text ≡ Err e → GoesOn text tokens e

-- the words begin with those before the place and with the first that is left; where none is left, they are the words before it
abbrev pub GoesFurther : Words → Words → Words → Type 0
GoesFurther before [] us = AreSame before us
GoesFurther before (w ∷ ws) us = Begins (before ++ w ∷ []) us

-- the place of a fault is exact: some text that is read goes on as the text does up to it, and none does any further
abbrev pub FaultsAreExact : Type 0
FaultsAreExact = (text : List ℕ) (tokens : List Token) (e : SyntaxError) → tokens_of text ≡ Ok tokens → tree_of text ≡ Err e
    → (g : GoesOn text tokens e) × ((other : List ℕ) (others : List Token) (tree : Tree) → tokens_of other ≡ Ok others → tree_of other ≡ Ok tree → GoesFurther g.before g.rest (words_of other others) → ⊥)
