-- A clause of the formula, refuted atom by atom.
use Rattle.std.specs.Prelude.{◌≡◌, ℕ, true, List, [], Some}
use Rattle.lucy_clauses.specs.declared.formulas.Formula.{Formula}
use Rattle.lucy_clauses.specs.Sums.{Form}
use Rattle.lucy_cert.specs.declared.steps.ProofStep.{ProofStep}
use Rattle.lucy_cert.specs.Justified.{open_atoms}
use Rattle.lucy_units.specs.Leads.{led, all_known}
use Rattle.lucy_solver.specs.Shows.{AreShown, GoesOn, clauses_of}

-- after some atoms of a clause: new steps, hints among them, and what they make true
pub record Leading (f : Formula) (ds : List Form) (old new : List ProofStep) (hints : List ℕ) (trues passed : List Form) : Type 0 where
  pub shown : AreShown f new
  pub goes_on : GoesOn old new
  pub led : led (clauses_of f new) ds hints ≡ Some trues
  pub known : all_known trues ds ≡ true
  pub closed : open_atoms trues passed ≡ []
