-- Lists of names.
use Rattle.std.specs.Prelude.{ℕ, Bool, true, not, ◌&&◌, if◌then◌else◌, List, [], ◌∷◌, ◌++◌, Option, Some, None, position, slice_index_or, bytes_eq}
use Rattle.std.specs.List.{list_any}

-- the place of the first name that is this one
abbrev pub place_of : List (List ℕ) → List ℕ → Option ℕ
place_of names name = position (bytes_eq name) names

-- the name at a place
abbrev pub name_at : List (List ℕ) → ℕ → List ℕ
name_at names place = slice_index_or names place []

-- whether a name is there
abbrev pub is_among : List (List ℕ) → List ℕ → Bool
is_among names name = list_any (bytes_eq name) names

-- the names with this one behind them, unless it is there
abbrev pub with_name : List (List ℕ) → List ℕ → List (List ℕ)
with_name names name = if is_among names name then names else names ++ name ∷ []

-- each of these names is none of those before it, the ones in `before` among them
abbrev pub differ_behind : List (List ℕ) → List (List ℕ) → Bool
differ_behind before [] = true
differ_behind before (name ∷ names) = not (is_among before name) && differ_behind (before ++ name ∷ []) names

-- each name is none of those before it
abbrev pub differ : List (List ℕ) → Bool
differ names = differ_behind [] names

-- the names, if they differ
abbrev pub where_differ : List (List ℕ) → Option (List (List ℕ))
where_differ names = if differ names then Some names else None
