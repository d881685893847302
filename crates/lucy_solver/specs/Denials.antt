-- Clauses that are false under decisions.
use Rattle.std.specs.Prelude.{◌≡◌, ℕ, Bool, true, false, List, Option, Some, None, slice_get}
use Rattle.std.specs.List.{list_all}
use Rattle.lucy_clauses.specs.declared.formulas.Clause.{Clause}
use Rattle.lucy_clauses.specs.declared.formulas.Formula.{Formula}
use Rattle.lucy_clauses.specs.Sums.{Form}
use Rattle.lucy_cert.specs.declared.steps.ProofStep.{ProofStep}
use Rattle.lucy_cert.specs.Justified.{is_false}
use Rattle.lucy_solver.specs.Shows.{clauses_of}

abbrev pub all_false : List Form → List Form → Bool
all_false ds ts = list_all (is_false ds) ts

abbrev pub clause_false : List Form → Option Clause → Bool
clause_false ds None = false
clause_false ds (Some c) = all_false ds c.atoms

-- the clause of this number is false under the decisions
pub record IsDenied (f : Formula) (steps : List ProofStep) (number : ℕ) (ds : List Form) : Type 0 where
  pub there : clause_false ds (slice_get (clauses_of f steps) number) ≡ true
