-- Texts cut at a byte.
use Rattle.std.specs.Prelude.{ℕ, ◌==◌, List, [], ◌∷◌, ◌++◌, Option, Some, None, if◌then◌else◌}
use Rattle.std.specs.Option.{option_map}

abbrev pub behind_byte : ℕ → List ℕ × List ℕ → List ℕ × List ℕ
behind_byte c p = (c ∷ p.0, p.1)

-- what stands before the first such byte, and what stands behind it; none where there is no such byte
abbrev pub cut : ℕ → List ℕ → Option (List ℕ × List ℕ)
cut b [] = None
cut b (c ∷ cs) = if c == b then Some ([], cs) else option_map (behind_byte c) (cut b cs)

-- a byte in front of the first piece
abbrev pub onto : ℕ → List (List ℕ) → List (List ℕ)
onto c [] = (c ∷ []) ∷ []
onto c (p ∷ ps) = (c ∷ p) ∷ ps

-- what stands before, between and behind the spaces of a text
abbrev pub pieces : List ℕ → List (List ℕ)
pieces [] = [] ∷ []
pieces (c ∷ cs) = if c == 32 then [] ∷ pieces cs else onto c (pieces cs)

-- each piece behind a space
abbrev pub behind_spaces : List (List ℕ) → List ℕ
behind_spaces [] = []
behind_spaces (p ∷ ps) = (32 ∷ p) ++ behind_spaces ps

-- pieces with a space between them
abbrev pub spaced : List (List ℕ) → List ℕ
spaced [] = []
spaced (p ∷ ps) = p ++ behind_spaces ps
