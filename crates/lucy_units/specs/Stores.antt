-- What a store holds: clauses, and atoms that are true under assumptions.
use Rattle.std.specs.Prelude.{◌≡◌, ℕ, Bool, true, false, List, [], ◌∷◌, ◌++◌, Option, Some, None}
use Rattle.std.specs.List.{list_all}
use Rattle.lucy_clauses.specs.declared.formulas.Clause.{Clause}
use Rattle.lucy_clauses.specs.Sums.{Form}
use Rattle.lucy_cert.specs.Justified.{open_atoms}
use Rattle.lucy_units.specs.Leads.{is_known, opened}

pub record Stored : Type 0 where
  pub clauses : List Clause
  -- the true atoms, in the order in which they became true
  pub atoms : List Form
  -- for each of them, the number of the clause that made it true, or none where it was assumed
  pub reasons : List (Option ℕ)

-- the atoms that were assumed
abbrev pub assumed : List Form → List (Option ℕ) → List Form
assumed [] rs = []
assumed (t ∷ ts) [] = []
assumed (t ∷ ts) (None ∷ rs) = t ∷ assumed ts rs
assumed (t ∷ ts) (Some n ∷ rs) = assumed ts rs

-- each atom that was not assumed was the last one of its clause that was not false under the atoms before it
abbrev pub AreDerived : List Clause → List Form → List Form → List (Option ℕ) → Type 0
AreDerived cs before [] [] = Unit {0}
AreDerived cs before [] (r ∷ rs) = ⊥
AreDerived cs before (t ∷ ts) [] = ⊥
AreDerived cs before (t ∷ ts) (None ∷ rs) = AreDerived cs (before ++ t ∷ []) ts rs
AreDerived cs before (t ∷ ts) (Some n ∷ rs) = (opened cs before n ≡ Some (t ∷ [])) × AreDerived cs (before ++ t ∷ []) ts rs

pub record IsStore (s : Stored) : Type 0 where
  pub derived : AreDerived s.clauses [] s.atoms s.reasons

-- neither all atoms are false, nor all but one that is not true
abbrev pub is_settled_by : List Form → List Form → Bool
is_settled_by trues [] = false
is_settled_by trues (t ∷ []) = is_known t trues
is_settled_by trues (t ∷ u ∷ ts) = true

-- a clause is neither empty nor unit under true atoms
abbrev pub is_settled : List Form → Clause → Bool
is_settled trues c = is_settled_by trues (open_atoms trues c.atoms)

abbrev pub are_settled : List Form → List Clause → Bool
are_settled trues cs = list_all (is_settled trues) cs

abbrev pub stored : List Clause → List Form → List (Option ℕ) → Stored
stored cs ts rs = record { clauses = cs; atoms = ts; reasons = rs }
