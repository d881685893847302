-- What is decided of a formula.
use Rattle.std.specs.Prelude.{◌≡◌, Bool, true, None}
use Rattle.std.specs.List.{list_all}
use Rattle.lucy_clauses.specs.declared.formulas.Formula.{Formula}
use Rattle.lucy_clauses.specs.Formulas.{Models}
use Rattle.lucy_cert.specs.Refuting.{Refutes}
use Rattle.lucy_solver.specs.Shows.{adds, are_writable}
use Rattle.lucy_solver.specs.declared.decision.Decision.{Decision}
use Rattle.lucy_solver.specs.declared.decision.Decision.TheVariants.{Model, Refuted}

-- a model of the formula, or a proof without drops that refutes it
abbrev pub Decides : Formula → Decision → Type 0
Decides f (Model a) = Models f a
Decides f (Refuted proof) = Refutes f proof None × (list_all adds proof.steps ≡ true)

-- each step of the proof can be written into a certificate: its numbers are at most 2 ^ 126 in size
abbrev pub is_writable : Decision → Bool
is_writable (Model a) = true
is_writable (Refuted proof) = are_writable proof.steps
