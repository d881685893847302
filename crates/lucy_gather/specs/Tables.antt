-- Names with what they stand for, as a list of entries.
use Rattle.std.specs.Prelude.{ℕ, ◌==◌, ◌&&◌, if◌then◌else◌, List, [], ◌∷◌, ◌++◌, map, Option, Some, None, bytes_eq}
use Rattle.lucy_gather.specs.declared.scopes.Meaning.{Meaning}
use Rattle.lucy_gather.specs.declared.scopes.Entry.{Entry}

-- what a name stands for in a group
abbrev pub held : ℕ → List ℕ → List Entry → Option Meaning
held group name [] = None
held group name (e ∷ es) = if group == e.group && bytes_eq name e.name then Some e.meaning else held group name es

abbrev pub entry_of : ℕ → List ℕ → Meaning → Entry
entry_of group name meant = record { group = group; name = name; meaning = meant }

-- the entries of keys, each with a group and a name, and of what these stand for
abbrev pub entries_of : {K : Type 0} → (K → ℕ) → (K → List ℕ) → List (K × Meaning) → List Entry
entries_of group name rows = map (λ row. entry_of (group row.0) (name row.0) row.1) rows

abbrev pub with_entry_by : Option Meaning → List Entry → Entry → List Entry
with_entry_by None entries entry = entries ++ entry ∷ []
with_entry_by (Some other) entries entry = entries

-- the entries with this one behind them, unless its name is there in its group
abbrev pub with_entry : List Entry → Entry → List Entry
with_entry entries entry = with_entry_by (held entry.group entry.name entries) entries entry
