-- A certificate that is judged a part and a step at a time.
use Rattle.std.specs.Prelude.{ℕ, List, [], ◌∷◌, fold, Option, Some, None, if◌then◌else◌}
use Rattle.std.specs.Option.{option_or}
use Rattle.lucy_clauses.specs.declared.formulas.Clause.{Clause}
use Rattle.lucy_plan.specs.declared.parts.PlanParts.{PlanParts}
use Rattle.lucy_cert.specs.declared.names.PartName.{PartName}
use Rattle.lucy_cert.specs.declared.steps.ProofStep.{ProofStep}
use Rattle.lucy_cert.specs.Certificates.{Part}
use Rattle.lucy_cert.specs.Names.{is_before}
use Rattle.lucy_checker.specs.declared.verdict.Verdict.{Verdict}
use Rattle.lucy_checker.specs.declared.verdict.Verdict.TheVariants as verdict
use Rattle.lucy_checker.specs.Checkers.{checker_of, checked, checker_fault}
use Rattle.lucy_judge.specs.declared.refusal.Refusal.{Refusal}
use Rattle.lucy_judge.specs.declared.refusal.Refusal.TheVariants.{Missing, Rejected}
use Rattle.lucy_judge.specs.declared.trial.Present.{Present}
use Rattle.lucy_judge.specs.declared.trial.Trial.{Trial}
use Rattle.lucy_judge.specs.Judging.{needed, formula_of, is_same, rejected, start_refusal}

abbrev pub trial : List PartName → Option Present → Option Refusal → Trial
trial due present refusal = record { due = due; present = present; refusal = refusal }

-- no part yet
abbrev pub opening : PlanParts → Trial
opening plan = trial (needed plan) None (start_refusal plan)

-- ---- a part begins

-- why a part is refused, where its steps are over
abbrev pub end_refusal : Present → Option Refusal
end_refusal p = rejected p.name (checker_fault p.checker)

abbrev pub present_refusal : Option Present → Option Refusal
present_refusal None = None
present_refusal (Some p) = end_refusal p

-- why a part is refused whose proof is checked with this verdict
abbrev pub by_verdict : PartName → Verdict → Option Refusal
by_verdict name verdict.Refuted = None
by_verdict name (verdict.Rejected step why) = Some (Rejected name step why)

-- the first refusal, where the steps of the present part are over
abbrev pub refusal_so_far : Trial → Option Refusal
refusal_so_far t = option_or t.refusal (present_refusal t.present)

abbrev pub present : PlanParts → Option ℕ → PartName → Present
present plan live name = record { name = name; checker = checker_of (formula_of plan name) live }

-- parts that are due and come before this one are missing
abbrev pub passed : PartName → Option Refusal → List PartName → Option Refusal × List PartName
passed name refusal [] = (refusal, [])
passed name refusal (n ∷ ns) = if is_before n name then passed name (option_or refusal (Some (Missing n))) ns else (refusal, n ∷ ns)

-- a part of this name begins: it is needed if it is the next one that is due
abbrev pub begun : PlanParts → Option ℕ → PartName → Option Refusal → List PartName → Trial
begun plan live name refusal [] = trial [] None refusal
begun plan live name refusal (n ∷ ns) = if is_same n name then trial ns (Some (present plan live n)) refusal else trial (n ∷ ns) None refusal

-- what a part that begins makes of a trial
abbrev pub part_taken : PlanParts → Option ℕ → Trial → PartName → Trial
part_taken plan live t name = let left = passed name (refusal_so_far t) t.due in begun plan live name left.0 left.1

-- ---- a step

abbrev pub step_of : ProofStep → Present → Present
step_of s p = record { name = p.name; checker = checked p.checker s }

abbrev pub present_step : Option Present → ProofStep → Option Present
present_step None s = None
present_step (Some p) s = Some (step_of s p)

-- what a step of the part that has begun makes of a trial: those of a part that is not needed are not looked at
abbrev pub step_taken : Trial → ProofStep → Trial
step_taken t s = trial t.due (present_step t.present s) t.refusal

-- the live clauses of steps of the present part, where it is needed
abbrev pub held_of : Option Present → List Clause
held_of None = []
held_of (Some p) = p.checker.progress.held.clauses

-- ---- the end

abbrev pub missing : List PartName → Option Refusal
missing [] = None
missing (n ∷ ns) = Some (Missing n)

-- the first refusal, where all parts are over
abbrev pub refusal_at_end : Trial → Option Refusal
refusal_at_end t = option_or (refusal_so_far t) (missing t.due)

-- ---- whole parts

abbrev pub whole_part_taken : PlanParts → Option ℕ → Trial → Part → Trial
whole_part_taken plan live t p = fold step_taken (part_taken plan live t p.0) p.1.steps

-- what these parts come to
abbrev pub trial_of : PlanParts → Option ℕ → List Part → Trial
trial_of plan live parts = fold (whole_part_taken plan live) (opening plan) parts
