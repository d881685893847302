-- Judges, whose trial is gone once memory has run out.
use Rattle.std.specs.Prelude.{◌≡◌, ℕ, List, [], Option, Some, None, Result, Ok, Err}
use Rattle.std.specs.declared.alloc.AllocError.{AllocError}
use Rattle.lucy_clauses.specs.declared.formulas.Clause.{Clause}
use Rattle.lucy_plan.specs.declared.parts.PlanParts.{PlanParts}
use Rattle.lucy_cert.specs.Certificates.{Part}
use Rattle.lucy_judge.specs.declared.refusal.Refusal.{Refusal}
use Rattle.lucy_judge.specs.declared.refusal.Refusal.TheVariants.{OutOfMemory}
use Rattle.lucy_judge.specs.declared.trial.Trial.{Trial}
use Rattle.lucy_judge.specs.Judging.{answer_of}
use Rattle.lucy_judge.specs.Trials.{trial_of, held_of, refusal_at_end}

pub record Judging : Type 0 where
  pub plan : PlanParts
  pub trial : Option Trial

abbrev pub judging : PlanParts → Option Trial → Judging
judging plan trial = record { plan = plan; trial = trial }

-- these parts and steps have been given, and memory has not run out
abbrev pub HasTaken : PlanParts → Option ℕ → List Part → Judging → Type 0
HasTaken plan live parts j = j ≡ judging plan (Some (trial_of plan live parts))

abbrev pub turns : PlanParts → Option Trial → (Trial → Trial) → Result (Unit {0}) AllocError → Judging → Type 0
turns plan None change (Ok u) new = ⊥
turns plan None change (Err e) new = new ≡ judging plan None
turns plan (Some t) change (Ok u) new = new ≡ judging plan (Some (change t))
turns plan (Some t) change (Err e) new = new ≡ judging plan None

-- what a call makes of a judge: what it says of the trial; or memory has run out, and each later call tells so
abbrev pub Turns : Judging → (Trial → Trial) → Result (Unit {0}) AllocError → Judging → Type 0
Turns old change result new = turns old.plan old.trial change result new

abbrev pub held_in : Option Trial → List Clause
held_in None = []
held_in (Some t) = held_of t.present

abbrev pub finished : PlanParts → Option Trial → Result PlanParts Refusal
finished plan None = Err OutOfMemory
finished plan (Some t) = answer_of plan (refusal_at_end t)
