-- Propagation over the atoms that are false.
use Rattle.std.specs.Prelude.{◌≡◌, Bool, List, [], ◌∷◌, ◌++◌, map, if◌then◌else◌}
use Rattle.std.specs.List.{list_any}
use Rattle.lucy_clauses.specs.Equality.{same_form}
use Rattle.lucy_clauses.specs.Sums.{Form, complement}
use Rattle.lucy_cert.specs.Justified.{open_atoms}

-- an atom is one of those that are false
abbrev pub is_among : List Form → Form → Bool
is_among falses t = list_any (same_form t) falses

-- the atoms with one more, unless it is there
abbrev pub with_atom : List Form → Form → List Form
with_atom falses t = if list_any (same_form t) falses then falses else falses ++ t ∷ []

-- the same atoms, in any order and any number of times
pub record AreSame (ts us : List Form) : Type 0 where
  pub same : (t : Form) → is_among ts t ≡ is_among us t

-- the atoms that are not false, where the complements of these are true
abbrev pub open_under : List Form → List Form → List Form
open_under falses atoms = open_atoms (map complement falses) atoms
