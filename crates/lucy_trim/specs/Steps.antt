-- How a proof is trimmed, a step at a time.
use Rattle.std.specs.Prelude.{ℕ, ◌+◌, not, List, [], ◌∷◌, ◌++◌, if◌then◌else◌}
use Rattle.std.specs.List.{filter}
use Rattle.lucy_cert.specs.declared.steps.ProofStep.{ProofStep}
use Rattle.lucy_cert.specs.declared.steps.ProofStep.TheVariants.{Drop}
use Rattle.lucy_cert.specs.Numbers.{are_droppable}
use Rattle.lucy_trim.specs.declared.trimming.Trimming.{Trimming}
use Rattle.lucy_trim.specs.Trimming.{with_added}
use Rattle.lucy_trim.specs.Uses.{is_used_behind}

-- a drop of these numbers, where there is one and each is above the one before it
abbrev pub drop_of : List ℕ → List ProofStep
drop_of ns = if are_droppable ns then Drop ns ∷ [] else []

abbrev pub still_used : ℕ → List ℕ → ℕ → List ℕ → List ℕ
still_used first last passed ns = filter (is_used_behind first last passed) ns

abbrev pub used_up : ℕ → List ℕ → ℕ → List ℕ → List ℕ
used_up first last passed ns = filter (λ n. not (is_used_behind first last passed n)) ns

-- one step more, so that so many are passed
abbrev pub with_step : ℕ → List ℕ → ℕ → Trimming → ProofStep → Trimming
with_step first last passed t s = record {
  steps = t.steps ++ s ∷ [] ++ drop_of (used_up first last passed (with_added t.held t.at s));
  held = still_used first last passed (with_added t.held t.at s);
  at = t.at + 1;
}

-- the steps behind so many
abbrev pub with_steps : ℕ → List ℕ → ℕ → Trimming → List ProofStep → Trimming
with_steps first last passed t [] = t
with_steps first last passed t (s ∷ ss) = with_steps first last (passed + 1) (with_step first last (passed + 1) t s) ss

abbrev pub begun : ℕ → Trimming
begun first = record { steps = []; held = []; at = first }
