-- What is known of texts that were written.
use Rattle.std.specs.Prelude.{◌≡◌, ℕ, ◌<◌, ◌≤◌, ◌^◌, nat_le, ◌&&◌, Bool, IsTrue, IfOk, List, length, Ok}
use Rattle.std.specs.List.{All, list_all}
use Rattle.lucy_names.specs.Plans.{txn_names}
use Rattle.lucy_names.specs.Tables.{differ}
use Rattle.lucy_plan.specs.Calls.{Fits}
use Rattle.lucy_plan.specs.declared.parts.Call.{Call}
use Rattle.lucy_plan.specs.declared.parts.PlanParts.{PlanParts}
use Rattle.lucy_calls.specs.declared.steps.Step.{Step}
use Rattle.lucy_calls.specs.declared.steps.Step.TheVariants.{Submit, Send, Deliver, Begin, Freeze, OpenEpoch, Thaw}
use Rattle.lucy_calls.specs.Fields.{has_bytes}
use Rattle.lucy_calls.specs.Steps.{steps_of}
use Rattle.lucy_calls.specs.Texts.{steps_text, work_text}
use Rattle.lucy_calls.specs.Work.{work_of}

-- the step's replica is one of so many, and a packet's number is within 64 bits
abbrev pub IsStepOf : ℕ → Step → Type 0
IsStepOf replicas (Submit replica) = replica < replicas
IsStepOf replicas (Send replica) = replica < replicas
IsStepOf replicas (Deliver to packet) = (to < replicas) × (packet < 2 ^ 64)
IsStepOf replicas (Begin replica) = replica < replicas
IsStepOf replicas (Freeze replica) = replica < replicas
IsStepOf replicas OpenEpoch = Unit {0}
IsStepOf replicas (Thaw replica) = replica < replicas

-- Steps that are written are read back, where each replica is one of so many and the text is within its limit.
abbrev pub StepsAreReadBack : Type 0
StepsAreReadBack = (replicas : ℕ) (steps : List Step) → replicas < 2 ^ 32 → All (IsStepOf replicas) steps → length (steps_text steps) ≤ 2 ^ 20 → steps_of replicas (steps_text steps) ≡ Ok steps

-- a field that can be read back: it is not empty, and each byte is above the space
abbrev pub is_field : List ℕ → Bool
is_field field = has_bytes field && list_all (nat_le 33) field

-- work within its limits: 1 to 16 lists, each of at most 4,096 calls that fit the plan
pub record IsWorkOf (plan : PlanParts) (lists : List (List Call)) : Type 0 where
  pub some : 1 ≤ length lists
  pub few : length lists ≤ 16
  pub short : All (λ calls. length calls ≤ 4096) lists
  pub fits : All (λ calls. All (Fits plan) calls) lists

-- Work that is written is read back, where the names of the plan's transactions differ and are fields, the work is within
-- its limits, and the text is within its own.
abbrev pub WorkIsReadBack : Type 0
WorkIsReadBack = (plan : PlanParts) (lists : List (List Call)) → IsTrue (differ (txn_names plan)) → All (λ name. IsTrue (is_field name)) (txn_names plan) → IsWorkOf plan lists
    → length (work_text (txn_names plan) lists) ≤ 2 ^ 25 → work_of plan (work_text (txn_names plan) lists) ≡ Ok lists

-- Each step of a script names one of its replicas.
abbrev pub StepsNameReplicas : Type 0
StepsNameReplicas = (replicas : ℕ) (text : List ℕ) → IfOk (steps_of replicas text) (All (IsStepOf replicas))

-- What a work text says is work within its limits.
abbrev pub WorkFits : Type 0
WorkFits = (plan : PlanParts) (text : List ℕ) → IfOk (work_of plan text) (IsWorkOf plan)
