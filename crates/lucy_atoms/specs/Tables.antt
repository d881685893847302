-- Lists of atoms.
use Rattle.std.specs.Prelude.{◌≡◌, ℕ, ◌<◌, ◌^◌, Bool, true, not, ◌&&◌, if◌then◌else◌, pos, List, [], ◌∷◌, ◌++◌, map, length, Option, Some, None, position, slice_index_or, slice_set}
use Rattle.std.specs.List.{list_any}
use Rattle.lucy_clauses.specs.Sums.{Form, form, complement}
use Rattle.lucy_clauses.specs.Equality.{same_form}

-- the place of the first atom that is this one
abbrev pub place_of : List Form → Form → Option ℕ
place_of atoms t = position (same_form t) atoms

-- whether an atom is there
abbrev pub is_among : List Form → Form → Bool
is_among atoms t = list_any (same_form t) atoms

-- the atoms with this one behind them, unless it is there
abbrev pub with_atom : List Form → Form → List Form
with_atom atoms t = if is_among atoms t then atoms else atoms ++ t ∷ []

-- the atom at a place
abbrev pub atom_at : List Form → ℕ → Form
atom_at atoms n = slice_index_or atoms n (form [] (pos 0))

-- each atom is none of those behind it
abbrev pub differ : List Form → Bool
differ [] = true
differ (t ∷ ts) = not (is_among ts t) && differ ts

-- the place of an atom's complement
abbrev pub complement_of : List Form → Form → Option ℕ
complement_of atoms t = place_of atoms (complement t)

-- the same of each atom
abbrev pub complements : List Form → List (Option ℕ)
complements atoms = map (complement_of atoms) atoms

-- the value at a place, if there is one, is another
abbrev pub marked : Option ℕ → ℕ → List (Option ℕ) → List (Option ℕ)
marked None n places = places
marked (Some i) n places = slice_set places i (Some n)

-- atoms that differ, fewer than 2^32, each with the place of its complement
pub record IsTable (atoms : List Form) (places : List (Option ℕ)) : Type 0 where
  pub differs : differ atoms ≡ true
  pub few : length atoms < 2 ^ 32
  pub places_are : places ≡ complements atoms
