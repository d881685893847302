-- Formulas, their models, and how wide their sums are.
use Rattle.std.specs.Prelude.{ℕ, Bool, true, false, IsTrue, nat_lt, nat_le, ◌&&◌, ◌+◌, ◌*◌, ◌^◌, max, ℤ, pos, int_le, unsigned_abs, List, [], ◌∷◌, length, slice_index_or}
use Rattle.std.specs.List.{list_all, list_any}
use Rattle.lucy_clauses.specs.declared.parts.Part.{Part}
use Rattle.lucy_clauses.specs.declared.formulas.Clause.{Clause}
use Rattle.lucy_clauses.specs.declared.formulas.Range.{Range}
use Rattle.lucy_clauses.specs.declared.formulas.Formula.{Formula}
use Rattle.lucy_clauses.specs.Sums.{Form, number_at, is_true}

-- a clause holds where one of its atoms does
abbrev pub clause_true : List ℤ → Clause → Bool
clause_true a c = list_any (is_true a) c.atoms

-- one number for each range, within it
abbrev pub are_within : List Range → List ℤ → Bool
are_within [] [] = true
are_within [] (x ∷ xs) = false
are_within (r ∷ rs) [] = false
are_within (r ∷ rs) (x ∷ xs) = int_le r.lo x && int_le x r.hi && are_within rs xs

-- an assignment models a formula: each number is in its range and each clause has a true atom
abbrev pub models : Formula → List ℤ → Bool
models f a = are_within f.ranges a && list_all (clause_true a) f.clauses

abbrev pub Models : Formula → List ℤ → Type 0
Models f a = IsTrue (models f a)

-- no assignment is a model
abbrev pub HasNoModel : Formula → Type 0
HasNoModel f = (a : List ℤ) → ¬ (Models f a)

-- the greater size of a range's two bounds, with 1 in place of 0
abbrev pub range_size : Range → ℕ
range_size r = max 1 (max (unsigned_abs r.lo) (unsigned_abs r.hi))

-- the same of the range at a place
abbrev pub size_at : List Range → ℕ → ℕ
size_at rs v = range_size (slice_index_or rs v (record { lo = pos 0; hi = pos 0 }))

-- the sizes of the factors, each times that of its variable's range
abbrev pub weight : List Range → List Part → ℕ
weight rs [] = 0
weight rs (p ∷ ps) = unsigned_abs p.by * size_at rs p.variable + weight rs ps

-- each variable has one of n ranges
abbrev pub names_below : ℕ → List Part → Bool
names_below n ps = list_all (λ (p : Part). nat_lt p.variable n) ps

abbrev pub is_narrow_atom : List Range → Form → Bool
is_narrow_atom rs t = names_below (length rs) t.parts && nat_le (unsigned_abs t.bound + weight rs t.parts) (2 ^ 100)

-- each atom of a clause is narrow
abbrev pub is_narrow_clause : List Range → Clause → Bool
is_narrow_clause rs c = list_all (is_narrow_atom rs) c.atoms

-- each atom names variables that have a range, and its bound and its weight are together at most 2^100
abbrev pub is_narrow : Formula → Bool
is_narrow f = list_all (is_narrow_clause f.ranges) f.clauses

-- the sizes of the factors, each times that of its variable's number, with 1 in place of 0
abbrev pub weight_at : List ℤ → List Part → ℕ
weight_at a [] = 0
weight_at a (p ∷ ps) = unsigned_abs p.by * max 1 (unsigned_abs (number_at a p.variable)) + weight_at a ps
