-- What a search finds.
use Rattle.std.specs.Prelude.{◌≡◌, ℕ, List, Option, Some, None, false}
use Rattle.std.specs.List.{list_any}
use Rattle.lucy_clauses.specs.declared.formulas.Formula.{Formula}
use Rattle.lucy_clauses.specs.Sums.{Form}
use Rattle.lucy_clauses.specs.Formulas.{Models}
use Rattle.lucy_cert.specs.declared.steps.ProofStep.{ProofStep}
use Rattle.lucy_solver.specs.declared.boxes.Bound.{Bound}
use Rattle.lucy_solver.specs.declared.searching.Found.{Found}
use Rattle.lucy_solver.specs.declared.searching.Found.TheVariants as found
use Rattle.lucy_solver.specs.declared.searching.Outcome.{Outcome}
use Rattle.lucy_solver.specs.declared.searching.Outcome.TheVariants as outcome
use Rattle.lucy_solver.specs.Boxes.{all_exceed}
use Rattle.lucy_solver.specs.Shows.{AreShown, GoesOn, Denies}
use Rattle.lucy_solver.specs.Denials.{IsDenied}

-- a model, or steps and the number of the clause that denies the decisions
abbrev pub Finds : Formula → List Form → List ProofStep → List ProofStep → Found → Type 0
Finds f decisions old new (found.Model a) = Models f a
Finds f decisions old new (found.Clause n) = AreShown f new × GoesOn old new × IsDenied f new n decisions

abbrev pub clause_found : ℕ → Found
clause_found n = found.Clause n

-- the number of a clause that denies the decisions, or no clause is false all over the box
abbrev pub BoxFinds : Formula → List Form → List Bound → List ProofStep → List ProofStep → Option ℕ → Type 0
BoxFinds f ds bs old new (Some n) = AreShown f new × GoesOn old new × Denies f new n ds
BoxFinds f ds bs old new None = (new ≡ old) × (list_any (all_exceed bs) f.clauses ≡ false)

-- what comes of a look of the engine
abbrev pub Rounds : Formula → List Form → List ProofStep → List ProofStep → Outcome → Type 0
Rounds f ds old new (outcome.Done found) = Finds f ds old new found
Rounds f ds old new outcome.Again = AreShown f new × GoesOn old new
Rounds f ds old new outcome.Stuck = AreShown f new × GoesOn old new

-- what comes of all its looks
abbrev pub Proposes : Formula → List Form → List ProofStep → List ProofStep → Option Found → Type 0
Proposes f ds old new (Some found) = Finds f ds old new found
Proposes f ds old new None = AreShown f new × GoesOn old new
