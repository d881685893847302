-- Laws of reading: a text is read as a tree exactly where the tree spells the text's tokens within the nesting limit.
use Rattle.std.specs.Prelude.{◌≡◌, ℕ, ◌≤◌, List, Ok}
use Rattle.lucy_lexer.specs.declared.token.Token.{Token}
use Rattle.lucy_lexer.specs.Reading.{tokens_of}
use Rattle.lucy_tree.specs.declared.plans.Tree.{Tree}
use Rattle.lucy_tree.specs.Spelling.{spelling}
use Rattle.lucy_tree.specs.Nesting.{nesting}
use Rattle.lucy_syntax.specs.Input.{words_of}
use Rattle.lucy_syntax.specs.Parsing.{tree_of}

-- a tree that is read spells the tokens of its text, each of them
abbrev pub ReadIsSpelled : Type 0
ReadIsSpelled = (text : List ℕ) (tree : Tree) → tree_of text ≡ Ok tree → (tokens : List Token) × (tokens_of text ≡ Ok tokens) × (words_of text tokens ≡ spelling tree)

-- in a tree that is read at most 64 are open at once
abbrev pub ReadIsWithin : Type 0
ReadIsWithin = (text : List ℕ) (tree : Tree) → tree_of text ≡ Ok tree → nesting tree ≤ 64

-- a text whose tokens a tree spells, in which at most 64 are open at once, is read as that tree
abbrev pub SpelledIsRead : Type 0
SpelledIsRead = (text : List ℕ) (tokens : List Token) (tree : Tree) → nesting tree ≤ 64 → tokens_of text ≡ Ok tokens → words_of text tokens ≡ spelling tree → tree_of text ≡ Ok tree
