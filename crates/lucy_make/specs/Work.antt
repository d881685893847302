-- The work of a plan, a seed, and numbers of replicas and of calls.
use Rattle.std.specs.Prelude.{ℕ, ◌+◌, ◌-◌, ◌^◌, ◌≤◌, ◌==◌, if◌then◌else◌, min, unsigned_abs, ℤ, pos, ◌+ℤ◌, ◌-ℤ◌, List, [], ◌∷◌, ◌++◌, length, slice_get}
use Rattle.rand_pcg.specs.Lcg.{Lcg}
use Rattle.lucy_calls.specs.Laws.{IsWorkOf}
use Rattle.lucy_calls.specs.Work.{params_of}
use Rattle.lucy_net.specs.Draws.{generator_of, drawn}
use Rattle.lucy_plan.specs.declared.parts.Call.{Call}
use Rattle.lucy_plan.specs.declared.parts.Limits.{Limits}
use Rattle.lucy_plan.specs.declared.parts.PlanParts.{PlanParts}
use Rattle.lucy_plan.specs.declared.parts.Txn.{Txn}
use Rattle.lucy_make.specs.Drawing.{Drawing, many}

-- how many numbers a parameter takes, or 2 ^ 32 - 1 where that is less
abbrev pub span : Limits → ℕ
span limits = min (unsigned_abs (limits.hi -ℤ limits.lo) + 1) (2 ^ 32 - 1)

-- a number above the least that the parameter takes
abbrev pub argument_at : Limits → ℕ × Lcg → ℤ × Lcg
argument_at limits draw = (limits.lo +ℤ pos draw.0, draw.1)

abbrev pub argument : Limits → Drawing ℤ
argument limits generator = argument_at limits (drawn (span limits) generator)

-- an argument for each parameter, behind those that were drawn
abbrev pub arguments : List Limits → List ℤ → Drawing (List ℤ)
arguments [] found generator = (found, generator)
arguments (limits ∷ params) found generator = arguments params (found ++ (argument limits generator).0 ∷ []) (argument limits generator).1

abbrev pub with_txn : ℕ → List ℤ × Lcg → Call × Lcg
with_txn txn drawn_arguments = (record { txn = txn; arguments = drawn_arguments.0 }, drawn_arguments.1)

-- a call of the transaction at a drawn place, with arguments
abbrev pub call_at : List Txn → ℕ × Lcg → Call × Lcg
call_at txns draw = with_txn draw.0 (arguments (params_of (slice_get txns draw.0)) [] draw.1)

unfoldable pub call : List Txn → Drawing Call
call txns generator = call_at txns (drawn (length txns) generator)

-- so many calls; where there are no transactions, none
unfoldable pub calls_of : List Txn → ℕ → Drawing (List Call)
calls_of txns count generator = if length txns == 0 then ([], generator) else many (call txns) count [] generator

-- a list of calls for each replica
unfoldable pub lists_of : List Txn → ℕ → ℕ → Drawing (List (List Call))
lists_of txns replicas count generator = many (calls_of txns count) replicas [] generator

unfoldable pub made_work : PlanParts → ℕ → ℕ → ℕ → List (List Call)
made_work plan seed replicas count = (lists_of plan.txns replicas count (generator_of seed)).0

-- Made work is within the limits of work, and its calls fit the plan.
abbrev pub MadeWorkFits : Type 0
MadeWorkFits = (plan : PlanParts) (seed replicas count : ℕ) → 1 ≤ replicas → replicas ≤ 16 → count ≤ 4096 → IsWorkOf plan (made_work plan seed replicas count)
