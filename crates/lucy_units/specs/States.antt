-- What a clause is under true atoms.
use Rattle.std.specs.Prelude.{◌≡◌, ℕ, ◌+◌, true, false, List, [], ◌∷◌, drop, Option, Some, None, slice_get}
use Rattle.lucy_clauses.specs.declared.formulas.Clause.{Clause}
use Rattle.lucy_clauses.specs.Sums.{Form}
use Rattle.lucy_cert.specs.Justified.{open_atoms}
use Rattle.lucy_units.specs.declared.truths.State.{State}
use Rattle.lucy_units.specs.declared.truths.State.TheVariants.{Empty, Unit, Settled}
use Rattle.lucy_units.specs.Leads.{is_known}
use Rattle.lucy_units.specs.Stores.{is_settled}

-- the atom at a place is the first from another place on that is not false
pub record IsFirstOpen (trues atoms : List Form) (from place : ℕ) : Type 0 where
  pub atom : Form
  pub there : slice_get atoms place ≡ Some atom
  pub first : open_atoms trues (drop from atoms) ≡ atom ∷ open_atoms trues (drop (place + 1) atoms)

abbrev pub FirstOpen : List Form → List Form → ℕ → Option ℕ → Type 0
FirstOpen trues atoms from None = open_atoms trues (drop from atoms) ≡ []
FirstOpen trues atoms from (Some place) = IsFirstOpen trues atoms from place

-- all atoms but the one at the place are false, and that one is not true
pub record IsUnit (trues atoms : List Form) (place : ℕ) : Type 0 where
  pub atom : Form
  pub there : slice_get atoms place ≡ Some atom
  pub left : open_atoms trues atoms ≡ atom ∷ []
  pub unknown : is_known atom trues ≡ false

abbrev pub StateOf : List Form → Clause → State → Type 0
StateOf trues c Empty = open_atoms trues c.atoms ≡ []
StateOf trues c (Unit place) = IsUnit trues c.atoms place
StateOf trues c Settled = is_settled trues c ≡ true
