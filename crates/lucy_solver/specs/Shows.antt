-- What the steps of a search show.
use Rattle.std.specs.Prelude.{◌≡◌, ℕ, pos, Bool, true, false, ◌&&◌, List, [], ◌∷◌, ◌++◌, map, Option, Some, None, slice_get}
use Rattle.std.specs.List.{list_all}
use Rattle.std.specs.Option.{option_map}
use Rattle.lucy_clauses.specs.declared.parts.Part.{Part}
use Rattle.lucy_clauses.specs.declared.formulas.Clause.{Clause}
use Rattle.lucy_clauses.specs.declared.formulas.Formula.{Formula}
use Rattle.lucy_clauses.specs.declared.lines.Ref.TheVariants.{Negated}
use Rattle.lucy_clauses.specs.declared.lines.Times.{Times}
use Rattle.lucy_clauses.specs.declared.lines.Line.{Line}
use Rattle.lucy_clauses.specs.declared.lines.Line.TheVariants.{Sum}
use Rattle.lucy_clauses.specs.Sums.{Form, complement}
use Rattle.lucy_clauses.specs.Formulas.{names_below}
use Rattle.lucy_cert.specs.declared.steps.ProofStep.{ProofStep}
use Rattle.lucy_cert.specs.declared.steps.ProofStep.TheVariants.{Lemma, Rup, Drop}
use Rattle.lucy_cert.specs.Justified.{Known, clause_at}
use Rattle.lucy_cert.specs.Refuting.{IsJustified}
use Rattle.lucy_cert.specs.Writable.{atom_fits, step_fits}
use Rattle.lucy_solver.specs.declared.boxes.Bound.{Bound}
use Rattle.lucy_solver.specs.Boxes.{takings, times_of}

-- a step that adds a clause
abbrev pub adds : ProofStep → Bool
adds (Lemma clause lines) = true
adds (Rup clause hints) = true
adds (Drop clauses) = false

-- the clause that it adds
abbrev pub clause_of : ProofStep → Clause
clause_of (Lemma clause lines) = clause
clause_of (Rup clause hints) = clause
clause_of (Drop clauses) = record { atoms = [] }

-- each step can be written into a certificate
abbrev pub are_writable : List ProofStep → Bool
are_writable steps = list_all (step_fits false) steps

-- each step is justified and can be written, and none drops a clause
pub record AreShown (f : Formula) (steps : List ProofStep) : Type 0 where
  pub justified : IsJustified f steps None
  pub all_add : list_all adds steps ≡ true
  pub writable : are_writable steps ≡ true

-- the clauses of a formula, and those that steps add
abbrev pub clauses_of : Formula → List ProofStep → List Clause
clauses_of f steps = f.clauses ++ map clause_of steps

-- what is known after steps that drop nothing
abbrev pub known_of : List Clause → Known
known_of cs = record { added = cs; dropped = [] }

-- the clause of a number
abbrev pub look : Formula → List ProofStep → ℕ → Option Clause
look f steps = clause_at f.clauses (known_of (map clause_of steps))

-- the clause of this number says that not all of these atoms are true
pub record Denies (f : Formula) (steps : List ProofStep) (number : ℕ) (atoms : List Form) : Type 0 where
  pub there : option_map (λ (c : Clause). c.atoms) (slice_get (clauses_of f steps) number) ≡ Some (map complement atoms)

-- the steps go on from the old ones
pub record GoesOn (old new : List ProofStep) : Type 0 where
  pub more : List ProofStep
  pub is : new ≡ old ++ more

abbrev pub names_all_below : ℕ → List Form → Bool
names_all_below n ts = list_all (λ (t : Form). names_below n t.parts) ts

-- an atom names variables that have one of n ranges, and its complement can be written
abbrev pub is_sound : ℕ → Form → Bool
is_sound n t = names_below n t.parts && atom_fits (complement t)

abbrev pub are_sound : ℕ → List Form → Bool
are_sound n ts = list_all (is_sound n) ts

abbrev pub rup_step : Clause → List ℕ → ProofStep
rup_step clause hints = Rup clause hints

abbrev pub lemma_step : Clause → List Line → ProofStep
lemma_step clause lines = Lemma clause lines

abbrev pub sum_line : List Times → Line
sum_line times = Sum times

-- an atom, by its place in the clause, and the bounds that take its parts off
abbrev pub atom_times : ℕ → List Bound → List Part → List Times
atom_times place bs ps = times_of (pos 1) (Negated place) ∷ takings bs ps
