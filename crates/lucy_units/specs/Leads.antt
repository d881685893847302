-- What the hints of a step make true.
use Rattle.std.specs.Prelude.{ℕ, Bool, List, [], ◌∷◌, ◌++◌, Option, Some, None, slice_get}
use Rattle.std.specs.List.{list_all, list_any}
use Rattle.std.specs.Option.{option_map}
use Rattle.lucy_clauses.specs.declared.formulas.Clause.{Clause}
use Rattle.lucy_clauses.specs.Sums.{Form}
use Rattle.lucy_clauses.specs.Equality.{same_form}
use Rattle.lucy_cert.specs.Justified.{open_atoms}

-- the atom is among the true ones
abbrev pub is_known : Form → List Form → Bool
is_known t trues = list_any (same_form t) trues

-- the atoms of a clause that are not false
abbrev pub opened : List Clause → List Form → ℕ → Option (List Form)
opened db trues n = option_map (λ (c : Clause). open_atoms trues c.atoms) (slice_get db n)

abbrev pub then_one : Option (List Form) → (Form → Option (List Form)) → Option (List Form)
then_one None next = None
then_one (Some []) next = None
then_one (Some (t ∷ [])) next = next t
then_one (Some (t ∷ u ∷ ts)) next = None

-- the true atoms after hints each of which leaves one atom
abbrev pub led : List Clause → List Form → List ℕ → Option (List Form)
led db trues [] = Some trues
led db trues (h ∷ hs) = then_one (opened db trues h) (λ t. led db (trues ++ t ∷ []) hs)

-- all of these are among the true atoms
abbrev pub all_known : List Form → List Form → Bool
all_known trues ds = list_all (λ (t : Form). is_known t trues) ds
