-- Laws of lists of atoms.
use Rattle.std.specs.Prelude.{◌≡◌, ℕ, ◌<◌, true, List, length, Some}
use Rattle.lucy_clauses.specs.Sums.{Form}
use Rattle.lucy_atoms.specs.Tables.{place_of, atom_at, with_atom, differ}

-- each of several atoms that differ is found at its own place
abbrev pub AtomsAreFound : Type 0
AtomsAreFound = (atoms : List Form) (n : ℕ) → differ atoms ≡ true → n < length atoms → place_of atoms (atom_at atoms n) ≡ Some n

-- an atom keeps its place when another is put
abbrev pub NumbersStay : Type 0
NumbersStay = (atoms : List Form) (t u : Form) (n : ℕ) → place_of atoms t ≡ Some n → place_of (with_atom atoms u) t ≡ Some n
