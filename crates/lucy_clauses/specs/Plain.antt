-- What an inequality is in normal form, where it may have no variable.
use Rattle.std.specs.Prelude.{◌≡◌, Bool, true, false, ℤ, pos, ◌≤ℤ◌, ◌<ℤ◌, int_le, if◌then◌else◌, List, []}
use Rattle.lucy_clauses.specs.declared.parts.Part.{Part}
use Rattle.lucy_clauses.specs.declared.atoms.Plain.{Plain}
use Rattle.lucy_clauses.specs.declared.atoms.Plain.TheVariants.{Always, Never, Atom}
use Rattle.lucy_clauses.specs.Sums.{is_true}
use Rattle.lucy_clauses.specs.Parts.{gathered}
use Rattle.lucy_clauses.specs.Normal.{IsNormalForm}

-- with no variable left the bound alone decides
abbrev pub IsPlainForm : List Part → ℤ → Plain → Type 0
IsPlainForm ps bound Always = (gathered ps ≡ []) × (pos 0 ≤ℤ bound)
IsPlainForm ps bound Never = (gathered ps ≡ []) × (bound <ℤ pos 0)
IsPlainForm ps bound (Atom t) = IsNormalForm ps bound t

abbrev pub plain_true : List ℤ → Plain → Bool
plain_true a Always = true
plain_true a Never = false
plain_true a (Atom t) = is_true a t

abbrev pub constant_plain : ℤ → Plain
constant_plain bound = if int_le (pos 0) bound then Always else Never
