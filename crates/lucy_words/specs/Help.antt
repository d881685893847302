-- The help.
use Rattle.std.specs.Prelude.{ℕ, List, [], ◌∷◌, ◌++◌, codes}
use Rattle.lucy_words.specs.Grammar.{Place, Row, rows}

-- the text of each place behind a space
abbrev pub words_of : List Place → List ℕ
words_of [] = []
words_of (place ∷ places) = (32 ∷ place.0) ++ words_of places

-- the line of a form
abbrev pub line_of : List Place → List ℕ
line_of places = codes "lucy" ++ words_of places ++ 10 ∷ []

-- a line for each form
abbrev pub lines_of : List Row → List ℕ
lines_of [] = []
lines_of (row ∷ more) = line_of row.1 ++ lines_of more

-- the text of the help
unfoldable pub help_text : List ℕ
help_text = lines_of rows
