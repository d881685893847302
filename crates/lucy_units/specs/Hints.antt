-- Hints along the true atoms of a store.
use Rattle.std.specs.Prelude.{◌≡◌, ℕ, true, List, Option, Some, take}
use Rattle.lucy_clauses.specs.declared.formulas.Clause.{Clause}
use Rattle.lucy_clauses.specs.Sums.{Form}
use Rattle.lucy_units.specs.Leads.{led, all_known}
use Rattle.lucy_units.specs.Stores.{assumed}

-- hints that make atoms true, the first i of a store's and all that were assumed among them
pub record IsLed (cs : List Clause) (ts : List Form) (rs : List (Option ℕ)) (i : ℕ) (hints : List ℕ) (trues : List Form) : Type 0 where
  pub led : led cs (assumed ts rs) hints ≡ Some trues
  pub known : all_known trues (take i ts) ≡ true
  pub assumed : all_known trues (assumed ts rs) ≡ true
