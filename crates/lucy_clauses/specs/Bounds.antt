-- The atoms that bound one variable.
use Rattle.std.specs.Prelude.{ℕ, ℤ, pos, negsuc, neg_ℤ, [], ◌∷◌}
use Rattle.lucy_clauses.specs.declared.parts.Part.{Part}
use Rattle.lucy_clauses.specs.Sums.{Form, form}

-- a variable with a factor
abbrev pub part : ℕ → ℤ → Part
part v x = record { variable = v; by = x }

-- `x <= bound` and `x >= bound`
abbrev pub at_most : ℕ → ℤ → Form
at_most v bound = form (part v (pos 1) ∷ []) bound

abbrev pub at_least : ℕ → ℤ → Form
at_least v bound = form (part v (negsuc 0) ∷ []) (neg_ℤ bound)
