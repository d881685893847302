-- Laws of printing.
use Rattle.std.specs.Prelude.{◌≡◌, ℕ, List, Ok, map}
use Rattle.lucy_lexer.specs.declared.token.Token.{Token}
use Rattle.lucy_lexer.specs.Reading.{tokens_of}
use Rattle.lucy_tree.specs.declared.marks.Span.{Span}
use Rattle.lucy_tree.specs.declared.plans.Tree.{Tree}
use Rattle.lucy_tree.specs.Words.{Word, called, plain}
use Rattle.lucy_tree.specs.Spelling.{spelling}
use Rattle.lucy_syntax.specs.Input.{words_of}
use Rattle.lucy_syntax.specs.Parsing.{tree_of}
use Rattle.lucy_print.specs.Layout.{printed}
use Rattle.lucy_print_laws.specs.Moving.{moved}

abbrev pub nowhere : Span
nowhere = record { start = 0; end = 0 }

-- a word, its place aside
abbrev pub unplaced : Word → Word
unplaced (called text s) = called text nowhere
unplaced (plain kind s) = plain kind nowhere

-- the printed text of a tree that was read has tokens, and they are the words that the tree spells, places aside
abbrev pub PrintedIsSpelled : Type 0
PrintedIsSpelled = (text : List ℕ) (tree : Tree) → tree_of text ≡ Ok tree
    → (tokens : List Token) × (tokens_of (printed tree) ≡ Ok tokens) × (map unplaced (words_of (printed tree) tokens) ≡ map unplaced (spelling tree))

-- the printed text of a tree that was read is read as that tree, its places moved
abbrev pub PrintedIsRead : Type 0
PrintedIsRead = (text : List ℕ) (tree : Tree) → tree_of text ≡ Ok tree → (to : Span → Span) × (tree_of (printed tree) ≡ Ok (moved to tree))

-- wherever the places of a tree are, its text is the same
abbrev pub PlacesAreNotPrinted : Type 0
PlacesAreNotPrinted = (to : Span → Span) (tree : Tree) → printed (moved to tree) ≡ printed tree

-- the tree that is read from the printed text of a tree that was read is printed as that same text
abbrev pub PrintedAgainIsSame : Type 0
PrintedAgainIsSame = (text : List ℕ) (tree again : Tree) → tree_of text ≡ Ok tree → tree_of (printed tree) ≡ Ok again → printed again ≡ printed tree
