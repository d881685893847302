-- Factors divided, and their greatest common divisor.
use Rattle.std.specs.Prelude.{ℕ, zero, suc, ◌%◌, ℤ, pos, int_div, unsigned_abs, List, [], ◌∷◌, map}
use Rattle.std.specs.Int.{int_div_euclid}
use Rattle.lucy_clauses.specs.declared.parts.Part.{Part}
use Rattle.lucy_clauses.specs.Sums.{Form, form}

abbrev pub divided : ℕ → Part → Part
divided d p = record { variable = p.variable; by = int_div p.by (pos d) }

-- the greatest common divisor, by Euclid's division, in at most so many steps
abbrev pub gcd_within : ℕ → ℕ → ℕ → ℕ
gcd_within zero a b = a
gcd_within (suc n) a zero = a
gcd_within (suc n) a (suc b) = gcd_within n (suc b) (a % suc b)

abbrev pub gcd : ℕ → ℕ → ℕ
gcd a b = gcd_within (suc b) a b

-- the greatest common divisor of a number and the factors
abbrev pub common_divisor : ℕ → List Part → ℕ
common_divisor d [] = d
common_divisor d (p ∷ ps) = common_divisor (gcd d (unsigned_abs p.by)) ps

-- the factors and the bound divided, the bound rounded down
abbrev pub divided_by : ℕ → List Part → ℤ → Form
divided_by g ps bound = form (map (divided g) ps) (int_div_euclid bound (pos g))
