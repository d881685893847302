-- What a propagation comes to.
use Rattle.std.specs.Prelude.{◌≡◌, ℕ, Bool, true, false, List, [], ◌++◌, map, take, length, Some, None, slice_get}
use Rattle.lucy_clauses.specs.declared.formulas.Clause.{Clause}
use Rattle.lucy_clauses.specs.Sums.{Form}
use Rattle.lucy_cert.specs.Justified.{rup_fault}
use Rattle.lucy_units.specs.declared.propagating.Found.{Found}
use Rattle.lucy_units.specs.declared.propagating.Found.TheVariants as found
use Rattle.lucy_units.specs.declared.propagating.Look.{Look}
use Rattle.lucy_units.specs.declared.propagating.Look.TheVariants as look
use Rattle.lucy_units.specs.declared.propagating.Pass.{Pass}
use Rattle.lucy_units.specs.declared.propagating.Pass.TheVariants as pass
use Rattle.lucy_units.specs.Leads.{opened}
use Rattle.lucy_units.specs.Stores.{Stored, assumed, is_settled, are_settled}

-- more atoms are true, each since a clause left it alone, with the number of that clause; nothing else changes
pub record Grows (old new : Stored) : Type 0 where
  pub clauses : new.clauses ≡ old.clauses
  pub more : List Form
  pub by : List ℕ
  pub atoms : new.atoms ≡ old.atoms ++ more
  pub reasons : new.reasons ≡ old.reasons ++ map Some by
  pub count : length more ≡ length by

-- hints lead from the assumed atoms to a clause all of whose atoms are false; or no clause is empty or unit
abbrev pub Finds : Stored → Found → Type 0
Finds s (found.Conflict hints) = rup_fault (slice_get s.clauses) (assumed s.atoms s.reasons) hints ≡ None
Finds s found.Quiet = are_settled s.atoms s.clauses ≡ true

-- what a look at a clause comes to
abbrev pub Looks : Stored → Stored → ℕ → Look → Type 0
Looks old new n look.Conflict = (new ≡ old) × (opened old.clauses old.atoms n ≡ Some [])
Looks old new n look.Changed = Grows old new
Looks old new n look.Settled = (new ≡ old) × ((c : Clause) → slice_get old.clauses n ≡ Some c → is_settled old.atoms c ≡ true)

-- after looks at the first n clauses: where nothing changed, these are settled
pub record Passing (old new : Stored) (n : ℕ) (changed : Bool) : Type 0 where
  pub grows : Grows old new
  pub settled : changed ≡ false → are_settled new.atoms (take n new.clauses) ≡ true

-- what looks at all clauses come to
abbrev pub Passes : Stored → Stored → Pass → Type 0
Passes old new (pass.Conflict n) = Grows old new × (opened new.clauses new.atoms n ≡ Some [])
Passes old new pass.Changed = Grows old new
Passes old new pass.Quiet = Grows old new × (are_settled new.atoms new.clauses ≡ true)
