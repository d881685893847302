-- A checker with its formula.
use Rattle.std.specs.Prelude.{◌≡◌, ℕ, Option, List, fold}
use Rattle.lucy_clauses.specs.declared.formulas.Formula.{Formula}
use Rattle.lucy_cert.specs.declared.steps.ProofStep.{ProofStep}
use Rattle.lucy_cert.specs.declared.steps.Why.{Why}
use Rattle.lucy_cert.specs.Justified.{nothing}
use Rattle.lucy_cert.specs.Refuting.{first_fault}
use Rattle.lucy_checker.specs.declared.checker.Checker.{Checker}
use Rattle.lucy_checker.specs.Checking.{begun, progressed, fault_at_end}

-- no step yet
abbrev pub checker_of : Formula → Option ℕ → Checker
checker_of f live = record { formula = f; progress = begun f live }

-- what a step makes of it
abbrev pub checked : Checker → ProofStep → Checker
checked c s = record { formula = c.formula; progress = progressed c.formula c.progress s }

-- the first fault, where the steps are over
abbrev pub checker_fault : Checker → Option (ℕ × Why)
checker_fault c = fault_at_end c.progress

-- a checker that is given the steps of a proof one by one has the first fault of the proof
abbrev pub CheckersAreExact : Type 0
CheckersAreExact = (f : Formula) (live : Option ℕ) (steps : List ProofStep) → checker_fault (fold checked (checker_of f live) steps) ≡ first_fault f live 0 nothing steps
