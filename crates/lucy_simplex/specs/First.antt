-- The first tableau of rows and bounds: variables shifted to begin at 0, the auxiliary variable with the factor 1, and a slack each.
use Rattle.std.specs.Prelude.{ℕ, zero, suc, ◌+◌, ◌==◌, if◌then◌else◌, ℤ, pos, negsuc, neg_ℤ, ◌+ℤ◌, ◌-ℤ◌, List, [], ◌∷◌, ◌++◌, length, map}
use Rattle.lucy_clauses.specs.declared.parts.Part.{Part}
use Rattle.lucy_clauses.specs.declared.formulas.Range.{Range}
use Rattle.lucy_clauses.specs.Sums.{Form, sum_at}
use Rattle.lucy_simplex.specs.Systems.{lows_of}
use Rattle.lucy_simplex.specs.Tableaus.{Equation, equation}

-- a number added at a place
abbrev pub bumped : List ℤ → ℕ → ℤ → List ℤ
bumped [] i k = []
bumped (x ∷ xs) zero k = (x +ℤ k) ∷ xs
bumped (x ∷ xs) (suc i) k = x ∷ bumped xs i k

abbrev pub zeros : ℕ → List ℤ
zeros zero = []
zeros (suc n) = pos 0 ∷ zeros n

-- -1 at a place, 0 at the others
abbrev pub unit : ℕ → ℕ → List ℤ
unit n i = bumped (zeros n) i (negsuc 0)

-- the factors of n variables
abbrev pub dense : ℕ → List Part → List ℤ
dense n [] = zeros n
dense n (p ∷ ps) = bumped (dense n ps) p.variable p.by

-- places: the constant, the auxiliary variable, n variables, m slacks of rows, n slacks of bounds
abbrev pub places_of : List Form → List Range → ℕ
places_of rows bounds = 2 + (length bounds + (length rows + length bounds))

abbrev pub row_constant : List ℤ → Form → ℤ
row_constant los r = r.bound -ℤ sum_at r.parts los

abbrev pub bound_constant : Range → ℤ
bound_constant b = b.hi -ℤ b.lo

abbrev pub row_numbers : ℕ → ℕ → List ℤ → ℕ → Form → List ℤ
row_numbers n m los i r = row_constant los r ∷ pos 1 ∷ (map neg_ℤ (dense n r.parts) ++ (unit m i ++ zeros n))

abbrev pub bound_numbers : ℕ → ℕ → ℕ → Range → List ℤ
bound_numbers n m j b = bound_constant b ∷ pos 1 ∷ (unit n j ++ (zeros m ++ unit n j))

abbrev pub row_equations : ℕ → ℕ → List ℤ → ℕ → List Form → List Equation
row_equations n m los i [] = []
row_equations n m los i (r ∷ rs) = equation 1 (2 + n + i) (row_numbers n m los i r) ∷ row_equations n m los (i + 1) rs

abbrev pub bound_equations : ℕ → ℕ → ℕ → List Range → List Equation
bound_equations n m j [] = []
bound_equations n m j (b ∷ bs) = equation 1 (2 + n + m + j) (bound_numbers n m j b) ∷ bound_equations n m (j + 1) bs

abbrev pub first_tableau : List Form → List Range → List Equation
first_tableau rows bounds =
    row_equations (length bounds) (length rows) (lows_of bounds) 0 rows ++ bound_equations (length bounds) (length rows) 0 bounds

-- the sum of the factors of one variable
abbrev pub factor_at : List Part → ℕ → ℤ
factor_at [] j = pos 0
factor_at (p ∷ ps) j = (if p.variable == j then p.by else pos 0) +ℤ factor_at ps j

abbrev pub unit_at : ℕ → ℕ → ℤ
unit_at own place = if own == place then negsuc 0 else pos 0
