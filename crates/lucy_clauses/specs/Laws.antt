-- Laws of normal forms and complements.
use Rattle.std.specs.Prelude.{◌≡◌, ℕ, ◌<◌, ℤ, not, List, map}
use Rattle.lucy_clauses.specs.declared.parts.Part.{Part}
use Rattle.lucy_clauses.specs.Sums.{Form, is_true, complement, scaled}
use Rattle.lucy_clauses.specs.Normal.{IsNormal, IsNormalForm}

-- the complement of the complement is the inequality itself
abbrev pub ComplementTwice : Type 0
ComplementTwice = (t : Form) → complement (complement t) ≡ t

-- the complement holds exactly where the inequality does not
abbrev pub ComplementOpposite : Type 0
ComplementOpposite = (a : List ℤ) (t : Form) → is_true a (complement t) ≡ not (is_true a t)

-- normal parts that are equal up to positive multiples are equal
abbrev pub ScaledPartsAreUnique : Type 0
ScaledPartsAreUnique = (k l : ℕ) (ps qs : List Part) → 0 < k → 0 < l → IsNormal ps → IsNormal qs → map (scaled k) ps ≡ map (scaled l) qs → ps ≡ qs

-- an inequality has one normal form
abbrev pub NormalFormIsUnique : Type 0
NormalFormIsUnique = (ps : List Part) (bound : ℤ) (t u : Form) → IsNormalForm ps bound t → IsNormalForm ps bound u → t ≡ u
