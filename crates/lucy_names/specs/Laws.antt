-- What is known of places and names.
use Rattle.std.specs.Prelude.{◌≡◌, ℕ, ◌<◌, IsTrue, List, length, Some}
use Rattle.lucy_names.specs.Tables.{place_of, name_at, differ}

-- where names differ, each is found at its own place
abbrev pub NamesAreFound : Type 0
NamesAreFound = (names : List (List ℕ)) (place : ℕ) → IsTrue (differ names) → place < length names → place_of names (name_at names place) ≡ Some place
