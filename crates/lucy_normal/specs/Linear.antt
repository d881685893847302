-- Inequalities in normal form, as normal conditions.
use Rattle.std.specs.Prelude.{ℕ, ℤ, pos, negsuc, int_le, List, [], ◌∷◌, if◌then◌else◌}
use Rattle.lucy_clauses.specs.declared.parts.Part.{Part}
use Rattle.lucy_clauses.specs.declared.atoms.Plain.{Plain}
use Rattle.lucy_clauses.specs.declared.atoms.Plain.TheVariants as plain
use Rattle.lucy_clauses.specs.Sums.{Form, form}
use Rattle.lucy_clauses.specs.Parts.{gathered}
use Rattle.lucy_clauses.specs.Dividing.{common_divisor, divided_by}
use Rattle.lucy_clauses.specs.Bounds.{part}
use Rattle.lucy_normal.specs.declared.normals.Normal.{Normal, All, Any}
use Rattle.lucy_normal.specs.declared.normals.Normal.TheVariants.{Atom as Lone}

-- gathered parts are at most a bound: an atom, or with no part what the bound decides
abbrev pub bounded : List Part → ℤ → Normal
bounded [] bound = if int_le (pos 0) bound then All [] else Any []
bounded (p ∷ ps) bound = Lone (divided_by (common_divisor 0 (p ∷ ps)) (p ∷ ps) bound)

-- the sum of the parts is at most the bound
abbrev pub linear : List Part → ℤ → Normal
linear ps bound = bounded (gathered ps) bound

-- the same of an inequality in normal form
abbrev pub of_plain : Plain → Normal
of_plain plain.Always = All []
of_plain plain.Never = Any []
of_plain (plain.Atom t) = Lone t

-- the first variable is at most the second, and at least the second, where v is below w
abbrev pub at_most_other : ℕ → ℕ → Form
at_most_other v w = form (part v (pos 1) ∷ part w (negsuc 0) ∷ []) (pos 0)

abbrev pub at_least_other : ℕ → ℕ → Form
at_least_other v w = form (part v (negsuc 0) ∷ part w (pos 1) ∷ []) (pos 0)
