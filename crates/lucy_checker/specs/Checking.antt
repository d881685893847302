-- A proof checked a step at a time.
use Rattle.std.specs.Prelude.{◌≡◌, ℕ, ◌+◌, ◌-◌, nat_lt, Bool, true, false, ◌||◌, List, [], ◌∷◌, ◌++◌, fold, length, map, slice_get, Option, Some, None, if◌then◌else◌}
use Rattle.std.specs.List.{list_all, list_any}
use Rattle.std.specs.Option.{option_or}
use Rattle.lucy_clauses.specs.declared.formulas.Clause.{Clause}
use Rattle.lucy_clauses.specs.declared.formulas.Formula.{Formula}
use Rattle.lucy_clauses.specs.Sums.{complement}
use Rattle.lucy_cert.specs.declared.steps.ProofStep.{ProofStep}
use Rattle.lucy_cert.specs.declared.steps.ProofStep.TheVariants.{Lemma, Rup, Drop}
use Rattle.lucy_cert.specs.declared.steps.Why.{Why}
use Rattle.lucy_cert.specs.declared.steps.Why.TheVariants.{Unknown, NoEmpty}
use Rattle.lucy_cert.specs.Numbers.{contains}
use Rattle.lucy_cert.specs.Justified.{lemma_fault, where_known, rup_fault, live_fault}
use Rattle.lucy_cert.specs.Refuting.{is_empty}
use Rattle.lucy_checker.specs.declared.progress.Fault.{Fault}
use Rattle.lucy_checker.specs.declared.progress.Progress.{Progress}
use Rattle.lucy_checker.specs.declared.verdict.Verdict.{Verdict}
use Rattle.lucy_checker.specs.declared.verdict.Verdict.TheVariants.{Refuted, Rejected}
use Rattle.lucy_checker.specs.Held.{Kept, named, kept_with, kept_without}

-- ---- one step

-- the clause of a number, of the formula or kept of a step
abbrev pub clause_in : List Clause → Kept → ℕ → Option Clause
clause_in clauses k n = if nat_lt n (length clauses) then slice_get clauses n else named k.numbers k.clauses n

abbrev pub all_kept : List ℕ → List ℕ → Bool
all_kept kept numbers = list_all (λ n. contains n kept) numbers

abbrev pub drop_fault : List ℕ → List ℕ → Option Why
drop_fault kept numbers = if all_kept kept numbers then None else Some Unknown

-- why a step breaks the rule of its kind
abbrev pub rule_fault : Formula → Kept → ProofStep → Option Why
rule_fault f k (Lemma clause lines) = where_known (length f.ranges) clause (lemma_fault f.ranges clause.atoms lines)
rule_fault f k (Rup clause hints) = where_known (length f.ranges) clause (rup_fault (clause_in f.clauses k) (map complement clause.atoms) hints)
rule_fault f k (Drop numbers) = drop_fault k.numbers numbers

abbrev pub added_after : ℕ → ProofStep → ℕ
added_after n (Lemma clause lines) = n + 1
added_after n (Rup clause hints) = n + 1
added_after n (Drop numbers) = n

abbrev pub dropped_after : ℕ → ProofStep → ℕ
dropped_after n (Lemma clause lines) = n
dropped_after n (Rup clause hints) = n
dropped_after n (Drop numbers) = n + length numbers

abbrev pub live_after : Progress → ProofStep → ℕ
live_after p s = added_after p.added s - dropped_after p.dropped s

abbrev pub step_fault : Formula → Progress → ProofStep → Option Why
step_fault f p s = option_or (rule_fault f p.held s) (live_fault p.most (live_after p s))

abbrev pub kept_after : Kept → ProofStep → Kept
kept_after k (Lemma clause lines) = kept_with k clause
kept_after k (Rup clause hints) = kept_with k clause
kept_after k (Drop numbers) = fold kept_without k numbers

abbrev pub adds_empty : ProofStep → Bool
adds_empty (Lemma clause lines) = is_empty clause
adds_empty (Rup clause hints) = is_empty clause
adds_empty (Drop numbers) = false

-- what a justified step makes of it
abbrev pub advanced : Progress → ProofStep → Progress
advanced p s = record {
  most = p.most;
  steps = p.steps + 1;
  added = added_after p.added s;
  dropped = dropped_after p.dropped s;
  held = kept_after p.held s;
  empty = p.empty || adds_empty s;
  fault = None;
}

-- the first step that is not justified; no clause is kept
abbrev pub failed : Progress → Why → Progress
failed p why = record {
  most = p.most;
  steps = p.steps;
  added = p.added;
  dropped = p.dropped;
  held = record { next = p.held.next; numbers = []; clauses = [] };
  empty = p.empty;
  fault = Some (record { step = p.steps; why = why });
}

abbrev pub by_fault : Progress → ProofStep → Option Why → Progress
by_fault p s None = advanced p s
by_fault p s (Some why) = failed p why

abbrev pub unless_failed : Option Fault → Progress → Progress → Progress
unless_failed None p next = next
unless_failed (Some fault) p next = p

-- nothing behind the first step that is not justified is looked at
unfoldable pub progressed : Formula → Progress → ProofStep → Progress
progressed f p s = unless_failed p.fault p (by_fault p s (step_fault f p s))

-- ---- all steps

abbrev pub begun : Formula → Option ℕ → Progress
begun f live = record {
  most = live;
  steps = 0;
  added = 0;
  dropped = 0;
  held = record { next = length f.clauses; numbers = []; clauses = [] };
  empty = list_any is_empty f.clauses;
  fault = None;
}

abbrev pub end_fault : ℕ → Bool → Option Fault → Option (ℕ × Why)
end_fault steps empty (Some fault) = Some (fault.step, fault.why)
end_fault steps true None = None
end_fault steps false None = Some (steps, NoEmpty)

-- the first fault, where the steps are over
abbrev pub fault_at_end : Progress → Option (ℕ × Why)
fault_at_end p = end_fault p.steps p.empty p.fault

-- what the steps come to
abbrev pub progress_of : Formula → Option ℕ → List ProofStep → Progress
progress_of f live steps = fold (progressed f) (begun f live) steps

-- a verdict says what the first fault is, or that there is none
abbrev pub Says : Option (ℕ × Why) → Verdict → Type 0
Says fault Refuted = fault ≡ None
Says fault (Rejected step why) = fault ≡ Some (step, why)
