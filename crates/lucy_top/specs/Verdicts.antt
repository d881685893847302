-- What a command comes to, and what it writes then.
use Rattle.std.specs.Prelude.{◌≡◌, ◌⊎◌, ◌↔◌, ℕ, true, if◌then◌else◌, List, Option, Some, None}
use Rattle.lucy_plan.specs.declared.parts.Call.{Call}
use Rattle.lucy_plan.specs.declared.parts.PlanParts.{PlanParts}
use Rattle.lucy_plan.specs.Soundness.{IsSound}
use Rattle.lucy_calls.specs.declared.steps.Step.{Step}
use Rattle.lucy_cert.specs.Certificates.{Contents}
use Rattle.lucy_cert.specs.Texts.{certificate_text}
use Rattle.lucy_cert.specs.Writable.{is_writable}
use Rattle.lucy_findings.specs.Findings.{AreFindings, is_sound}
use Rattle.lucy_findings.specs.declared.findings.Findings.{Findings}
use Rattle.lucy_judge.specs.Judging.{refusal_of}
use Rattle.lucy_judge.specs.declared.refusal.Refusal.{Refusal}
use Rattle.lucy_make.specs.Drills.{drill_text}
use Rattle.lucy_report.specs.FindingLines.{findings_text}
use Rattle.lucy_report.specs.VerdictLines.{accepted, refusal_text}
use Rattle.lucy_top.specs.Drills.{drill_work, drill_steps, drill_of}
use Rattle.lucy_top.specs.Outcomes.{Choice, HasRun}
use Rattle.lucy_top.specs.Replays.{replay_text, IsSafeThroughout}

-- the ways in which a text alone ends a command: what was asked for, words in no form, and an input at fault
pub data Kind : Type 0 where
  answered bad_words refused : Kind

abbrev pub status_of : Kind → ℕ
status_of answered = 0
status_of bad_words = 2
status_of refused = 3

pub data Verdict : Type 0 where
  -- this text
  exactly : Kind → List ℕ → Verdict
  -- what a plan is found to be
  finds : PlanParts → Verdict
  -- a certificate of a plan, or what the plan is found to be
  certifies : PlanParts → Verdict
  -- that a certificate is accepted for a plan, or why it is refused
  verifies : PlanParts → Option Refusal → Verdict
  -- a replay of a work and of steps for a plan, or why the certificate is refused
  replays : PlanParts → Option Refusal → List (List Call) → List Step → Verdict
  -- a replay where the plan is sound, or what the plan is found to be
  replays_if_sound : PlanParts → List (List Call) → List Step → Verdict
  -- a drill of a seed and a size on a plan, where it is sound, or what the plan is found to be
  drills : PlanParts → ℕ → ℕ → Verdict
  -- an outcome of a work for a plan, or why the certificate is refused
  runs : Choice → PlanParts → Option Refusal → List (List Call) → Verdict
  -- an outcome where the plan is sound, or what the plan is found to be
  runs_if_sound : Choice → PlanParts → List (List Call) → Verdict

-- Findings of the plan are told. Which states they show is free.
pub record AreTold (plan : PlanParts) (status : ℕ) (text : List ℕ) : Type 0 where
  pub findings : Findings
  pub are : AreFindings plan findings
  pub text_is : text ≡ findings_text plan findings
  pub status_is : status ≡ (if is_sound findings then 0 else 1)
  -- the status is 0 exactly where the plan is sound
  pub exact : (status ≡ 0) ↔ IsSound plan

-- the plan is not sound, and findings of it are told
pub record IsUnsound (plan : PlanParts) (status : ℕ) (text : List ℕ) : Type 0 where
  pub told : AreTold plan status text
  pub status_is : status ≡ 1
  pub unsound : ¬ IsSound plan

-- a certificate is told that can be written and is accepted for the plan, which is sound
pub record IsCertified (plan : PlanParts) (status : ℕ) (text : List ℕ) : Type 0 where
  pub certificate : Contents
  pub text_is : text ≡ certificate_text certificate
  pub writable : is_writable certificate ≡ true
  pub is_accepted : refusal_of plan certificate ≡ None
  pub status_is : status ≡ 0
  pub sound : IsSound plan

-- a certificate was accepted, and the plan is sound
pub record IsAccepted (plan : PlanParts) (status : ℕ) (text : List ℕ) : Type 0 where
  pub status_is : status ≡ 0
  pub text_is : text ≡ accepted
  pub sound : IsSound plan

-- why a certificate was refused
pub record IsRefused (plan : PlanParts) (refusal : Refusal) (status : ℕ) (text : List ℕ) : Type 0 where
  pub status_is : status ≡ 1
  pub text_is : text ≡ refusal_text plan refusal

-- the lines of the steps and the world after them; the plan is sound, and the world after each front of the steps is safe
pub record IsReplayed (plan : PlanParts) (work : List (List Call)) (steps : List Step) (status : ℕ) (text : List ℕ) : Type 0 where
  pub status_is : status ≡ 0
  pub text_is : text ≡ replay_text plan work steps
  pub sound : IsSound plan
  pub safe : IsSafeThroughout plan work steps

-- the summary of a drill; the plan is sound, and the world after each front of the steps is safe
pub record IsDrilled (plan : PlanParts) (seed size : ℕ) (status : ℕ) (text : List ℕ) : Type 0 where
  pub status_is : status ≡ 0
  pub text_is : text ≡ drill_text (drill_of plan seed size)
  pub sound : IsSound plan
  pub safe : IsSafeThroughout plan (drill_work plan seed) (drill_steps seed)

-- the status and the text of a verdict
abbrev pub Says : Verdict → ℕ → List ℕ → Type 0
Says (exactly kind t) status text = (status ≡ status_of kind) × (text ≡ t)
Says (finds plan) status text = AreTold plan status text
Says (certifies plan) status text = IsCertified plan status text ⊎ IsUnsound plan status text
Says (verifies plan None) status text = IsAccepted plan status text
Says (verifies plan (Some refusal)) status text = IsRefused plan refusal status text
Says (replays plan None work steps) status text = IsReplayed plan work steps status text
Says (replays plan (Some refusal) work steps) status text = IsRefused plan refusal status text
Says (replays_if_sound plan work steps) status text = IsReplayed plan work steps status text ⊎ IsUnsound plan status text
Says (drills plan seed size) status text = IsDrilled plan seed size status text ⊎ IsUnsound plan status text
Says (runs choice plan None work) status text = HasRun choice plan work status text
Says (runs choice plan (Some refusal) work) status text = IsRefused plan refusal status text
Says (runs_if_sound choice plan work) status text = HasRun choice plan work status text ⊎ IsUnsound plan status text
