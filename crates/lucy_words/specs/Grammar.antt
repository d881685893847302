-- The grammar of words: forms, each a list of places.
use Rattle.std.specs.Prelude.{ℕ, suc, ◌+◌, ◌<◌, ◌≤◌, nat_le, ◌==◌, ◌&&◌, ◌||◌, Bool, false, not, if◌then◌else◌, ℤ, pos, List, [], ◌∷◌, ◌++◌, length, map, take, max, Option, Some, None, is_some, IsSome, codes, bytes_eq}
use Rattle.std.specs.Borrow.{Bor}
use Rattle.lucy_io.specs.Decimals.{number_of}
use Rattle.lucy_words.specs.declared.forms.Form.{Form}
use Rattle.lucy_words.specs.declared.forms.Slot.{Slot}
use Rattle.lucy_words.specs.declared.forms.Slot.TheVariants as slot
use Rattle.lucy_words.specs.declared.forms.TheConstants.{FORMS}

abbrev pub Word : Type 0
Word = List ℕ

-- a name is a word that is not empty and does not begin with a dash
abbrev pub is_name : Word → Bool
is_name [] = false
is_name (b ∷ bs) = not (b == 45)

-- a number from the least to the most
abbrev pub within : ℕ → ℕ → Option ℤ → Option ℕ
within least most (Some (pos n)) = if nat_le least n && nat_le n most then Some n else None
within least most _ = None

-- the number that a word writes in canonical decimal, if it is within bounds
abbrev pub number_in : ℕ → ℕ → Word → Option ℕ
number_in least most word = within least most (number_of word)

-- a place in a form: a text, which the help shows, and what it takes
abbrev pub Place : Type 0
Place = List ℕ × Slot

-- whether a word may stand in a place
abbrev pub takes : Place → Word → Bool
takes (text, slot.Word) word = bytes_eq word text
takes (text, slot.Name) word = is_name word
takes (text, slot.NameOrDash) word = is_name word || bytes_eq word (codes "-")
takes (text, slot.Number bounds) word = is_some (number_in bounds.least bounds.most word)

-- how many of the words stand, from the front on, in the places of a form
abbrev pub agreed : List Place → List Word → ℕ
agreed places [] = 0
agreed [] (w ∷ words) = 0
agreed (p ∷ places) (w ∷ words) = if takes p w then suc (agreed places words) else 0

-- the words are of a form: all of them stand in its places, and there is one for each
abbrev pub is_of : List Place → List Word → Bool
is_of places words = agreed places words == length words && length words == length places

-- a form, and its places
abbrev pub Row : Type 0
Row = Form × List Place

abbrev pub places_of : List (Bor (List ℕ) × Slot) → List Place
places_of places = map (λ p. (p.0.now, p.1)) places

abbrev pub rows_of : List (Form × Bor (List (Bor (List ℕ) × Slot))) → List Row
rows_of forms = map (λ row. (row.0, places_of row.1.now)) forms

-- the table of the forms
abbrev pub rows : List Row
rows = map (λ row. (row.0, map (λ p. (p.0.now, p.1)) row.1.now)) FORMS

-- the first form of a table that the words are of
abbrev pub first_form : List Row → List Word → Option Form
first_form [] words = None
first_form (row ∷ more) words = if is_of row.1 words then Some row.0 else first_form more words

-- how many of the words stand, from the front on, in the places of some form of a table
abbrev pub reached : List Row → List Word → ℕ
reached [] words = 0
reached (row ∷ more) words = max (agreed row.1 words) (reached more words)

-- the form of words, the first in the table that they are of
unfoldable pub form_of : List Word → Option Form
form_of words = first_form rows words

-- how many of the words stand, from the front on, in the places of some form
unfoldable pub bad_place : List Word → ℕ
bad_place words = reached rows words

-- a word list of the grammar: one that is of some form
abbrev pub IsInGrammar : List Word → Type 0
IsInGrammar words = IsSome (form_of words)

-- some word list of the grammar goes on from these words
abbrev pub Continues : List Word → Type 0
Continues words = (rest : List Word) × IsInGrammar (words ++ rest)

-- The first place at fault of words that are not in the grammar: some word list of the grammar goes on from the words before
-- it, and none goes on with the word that stands there. Where no word stands there, one is missing.
pub record IsFirstBad (words : List Word) (n : ℕ) : Type 0 where
  pub outside : IsInGrammar words → ⊥
  pub within : n ≤ length words
  pub before : Continues (take n words)
  pub none_with : n < length words → Continues (take (n + 1) words) → ⊥
