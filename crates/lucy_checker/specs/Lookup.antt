-- The clauses that a hint may name.
use Rattle.std.specs.Prelude.{◌≡◌, ℕ, ◌+◌, ◌-◌, ◌&&◌, nat_le, nat_lt, Bool, true, false, List, [], ◌∷◌, ◌++◌, map, length, Option, Some, None, slice_get, if◌then◌else◌}
use Rattle.std.specs.List.{list_all}
use Rattle.lucy_clauses.specs.declared.formulas.Clause.{Clause}
use Rattle.lucy_cert.specs.declared.steps.ProofStep.{ProofStep}
use Rattle.lucy_cert.specs.declared.steps.Why.{Why}
use Rattle.lucy_cert.specs.declared.steps.Why.TheVariants.{Unknown}
use Rattle.lucy_cert.specs.declared.steps.ProofStep.TheVariants.{Lemma, Rup, Drop}

-- the clause that a step adds
abbrev pub added_clause : ProofStep → Option Clause
added_clause (Lemma clause lines) = Some clause
added_clause (Rup clause hints) = Some clause
added_clause (Drop numbers) = None

abbrev pub adds : ProofStep → Bool
adds (Lemma clause lines) = true
adds (Rup clause hints) = true
adds (Drop numbers) = false

-- no step drops clauses
abbrev pub no_drops : List ProofStep → Bool
no_drops steps = list_all adds steps

abbrev pub clause_of_step : Option ProofStep → Option Clause
clause_of_step None = None
clause_of_step (Some s) = added_clause s

-- the clause of a number, of the formula or of a step, where no step drops clauses
abbrev pub among_steps : List Clause → List ProofStep → ℕ → Option Clause
among_steps clauses steps n = if nat_lt n (length clauses) then slice_get clauses n else clause_of_step (slice_get steps (n - length clauses))

-- numbers of clauses of steps, where `count` clauses are those of the formula and each of `more` steps adds one
abbrev pub are_of_steps : ℕ → ℕ → List ℕ → Bool
are_of_steps count more numbers = list_all (λ n. nat_le count n && nat_lt n (count + more)) numbers

abbrev pub numbers_fault : ℕ → ℕ → List ℕ → Option Why
numbers_fault count more numbers = if are_of_steps count more numbers then None else Some Unknown
