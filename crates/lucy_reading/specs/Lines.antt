-- The line that says where an input is at fault.
use Rattle.std.specs.Prelude.{ℕ, List, [], ◌∷◌, ◌++◌, codes, decimal}

-- a fault at a byte, counted from 0
unfoldable pub bad_byte : List ℕ → ℕ → List ℕ → List ℕ
bad_byte name at what = codes "bad " ++ name ++ codes " byte " ++ decimal at ++ codes ": " ++ what ++ 10 ∷ []

-- a fault in a line, counted from 1
unfoldable pub bad_line : List ℕ → ℕ → List ℕ → List ℕ
bad_line name at what = codes "bad " ++ name ++ codes " line " ++ decimal at ++ codes ": " ++ what ++ 10 ∷ []

-- a count or a size outside its limit
unfoldable pub bad_count : List ℕ → ℕ → List ℕ → List ℕ
bad_count name count what = codes "bad " ++ name ++ codes " count " ++ decimal count ++ codes ": " ++ what ++ 10 ∷ []
