-- That a state is a point, and that it is not.
use Rattle.std.specs.Prelude.{ℕ, ◌+◌, ◌==◌, ◌^◌, nat_le, unsigned_abs, Bool, ℤ, pos, ◌-ℤ◌, ◌+ℤ◌, List, [], ◌∷◌, ◌++◌, length}
use Rattle.std.specs.List.{list_all}
use Rattle.lucy_normal.specs.declared.normals.Normal.{Normal, All, Any}
use Rattle.lucy_normal.specs.declared.normals.Normal.TheVariants.{Atom as Lone}
use Rattle.lucy_clauses.specs.Bounds.{at_most, at_least}

-- the number is p
abbrev pub on_leaf : ℕ → ℤ → List Normal
on_leaf v p = Lone (at_most v p) ∷ Lone (at_least v p) ∷ []

-- it is below p, or above it
abbrev pub off_leaf : ℕ → ℤ → List Normal
off_leaf v p = Lone (at_most v (p -ℤ pos 1)) ∷ Lone (at_least v (p +ℤ pos 1)) ∷ []

-- each number is that of the point, where the first leaf's variable has the number v
abbrev pub on_leaves : ℕ → List ℤ → List Normal
on_leaves v [] = []
on_leaves v (p ∷ ps) = on_leaf v p ++ on_leaves (v + 1) ps

abbrev pub at_point : ℕ → List ℤ → Normal
at_point v point = All (on_leaves v point)

-- some number is below or above that of the point
abbrev pub off_leaves : ℕ → List ℤ → List Normal
off_leaves v [] = []
off_leaves v (p ∷ ps) = off_leaf v p ++ off_leaves (v + 1) ps

abbrev pub off_point : ℕ → List ℤ → Normal
off_point v point = Any (off_leaves v point)

-- a number is that of a state: at most 2^63 in size
abbrev pub is_number : ℤ → Bool
is_number x = nat_le (unsigned_abs x) (2 ^ 63)

abbrev pub are_numbers : List ℤ → Bool
are_numbers xs = list_all is_number xs

abbrev pub all_numbers : List (List ℤ) → Bool
all_numbers points = list_all are_numbers points

-- each point has one number for each leaf
abbrev pub are_points : ℕ → List (List ℤ) → Bool
are_points leaves points = list_all (λ (point : List ℤ). length point == leaves) points
