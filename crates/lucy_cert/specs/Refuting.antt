-- When a proof refutes a formula, and else the first reason why it does not.
use Rattle.std.specs.Prelude.{◌≡◌, ℕ, ◌+◌, Bool, true, false, List, [], ◌∷◌, ◌++◌, fold, Option, Some, None}
use Rattle.std.specs.List.{list_any}
use Rattle.lucy_clauses.specs.declared.formulas.Clause.{Clause}
use Rattle.lucy_clauses.specs.declared.formulas.Formula.{Formula}
use Rattle.lucy_clauses.specs.Sums.{Form}
use Rattle.lucy_cert.specs.declared.steps.Proof.{Proof}
use Rattle.lucy_cert.specs.declared.steps.ProofStep.{ProofStep}
use Rattle.lucy_cert.specs.declared.steps.Why.{Why}
use Rattle.lucy_cert.specs.declared.steps.Why.TheVariants.{NoEmpty}
use Rattle.lucy_cert.specs.Justified.{Known, nothing, after, step_fault}

-- what the steps have come to
abbrev pub known_after : Known → List ProofStep → Known
known_after k steps = fold after k steps

-- each step is justified by those before it
abbrev pub AreJustified : Formula → Option ℕ → Known → List ProofStep → Type 0
AreJustified f live k [] = Unit {0}
AreJustified f live k (s ∷ ss) = (step_fault f live k s ≡ None) × AreJustified f live (after k s) ss

pub record IsJustified (f : Formula) (steps : List ProofStep) (live : Option ℕ) : Type 0 where
  pub each : AreJustified f live nothing steps

abbrev pub is_none_left : List Form → Bool
is_none_left [] = true
is_none_left (t ∷ ts) = false

abbrev pub is_empty : Clause → Bool
is_empty c = is_none_left c.atoms

-- some clause of the formula, or some clause that a step added, dropped later or not, is empty
abbrev pub has_empty : Formula → Known → Bool
has_empty f k = list_any is_empty (f.clauses ++ k.added)

-- a proof refutes a formula with so many live clauses at the most: each step is justified, and some clause is empty
pub record Refutes (f : Formula) (proof : Proof) (live : Option ℕ) : Type 0 where
  pub justified : AreJustified f live nothing proof.steps
  pub empty : has_empty f (known_after nothing proof.steps) ≡ true

-- ---- the first fault

abbrev pub fault_or : ℕ → Option Why → Option (ℕ × Why) → Option (ℕ × Why)
fault_or at None others = others
fault_or at (Some why) others = Some (at, why)

abbrev pub ending_fault : ℕ → Bool → Option (ℕ × Why)
ending_fault at true = None
ending_fault at false = Some (at, NoEmpty)

-- the first step that is not justified, with `at` steps before these; past the last step, that no clause is empty
abbrev pub first_fault : Formula → Option ℕ → ℕ → Known → List ProofStep → Option (ℕ × Why)
first_fault f live at k [] = ending_fault at (has_empty f k)
first_fault f live at k (s ∷ ss) = fault_or at (step_fault f live k s) (first_fault f live (at + 1) (after k s) ss)

abbrev pub fault_of : Formula → Proof → Option ℕ → Option (ℕ × Why)
fault_of f proof live = first_fault f live 0 nothing proof.steps
