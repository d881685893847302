-- The fields of a line.
use Rattle.std.specs.Prelude.{ℕ, ◌==◌, ◌&&◌, ◌||◌, Bool, true, false, not, if◌then◌else◌, List, [], ◌∷◌, filter, codes, bytes_eq, Ok, Err}
use Rattle.std.specs.List.{list_any}
use Rattle.lucy_calls.specs.declared.error.CallsError.{CallsError}
use Rattle.lucy_calls.specs.declared.error.CallsError.TheVariants.{BadLine}
use Rattle.lucy_calls.specs.Lines.{onto}
use Rattle.lucy_io.specs.Outcomes.{Outcome, ◌>>=◌}

-- what stands before, between and behind the spaces of a line
abbrev pub pieces : List ℕ → List (List ℕ)
pieces [] = [] ∷ []
pieces (b ∷ bs) = if b == 32 then [] ∷ pieces bs else onto b (pieces bs)

abbrev pub has_bytes : List ℕ → Bool
has_bytes [] = false
has_bytes (b ∷ bs) = true

-- what stands between spaces: fields are separated by one space or more
abbrev pub words : List ℕ → List (List ℕ)
words line = filter has_bytes (pieces line)

-- whether the last byte is a space
abbrev pub ends_spaced : List ℕ → Bool
ends_spaced [] = false
ends_spaced (b ∷ []) = b == 32
ends_spaced (b ∷ c ∷ bs) = ends_spaced (c ∷ bs)

-- whether the first byte is a space
abbrev pub begins_spaced : List ℕ → Bool
begins_spaced [] = false
begins_spaced (b ∷ bs) = b == 32

abbrev pub has_tab : List ℕ → Bool
has_tab line = list_any (λ b. b == 9) line

-- a line neither begins nor ends with a space, and has no tab
abbrev pub is_even : List ℕ → Bool
is_even line = not (begins_spaced line || ends_spaced line || has_tab line)

-- the fields of a line with this number
unfoldable pub fields_of : ℕ → List ℕ → Outcome CallsError (List (List ℕ))
fields_of n line = if is_even line then Ok (words line) else Err (BadLine n)

-- the fields are this word and `1`
abbrev pub is_heading : List ℕ → List (List ℕ) → Bool
is_heading word (f ∷ g ∷ []) = bytes_eq f word && bytes_eq g (codes "1")
is_heading word _ = false

-- a heading: this word, and the version 1
unfoldable pub heading : List ℕ → ℕ → List ℕ → Outcome CallsError (Unit {0})
heading word n line = do
  fields ← fields_of n line
  if is_heading word fields then Ok tt else Err (BadLine n)
