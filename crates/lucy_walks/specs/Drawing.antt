-- Calls that are drawn.
use Rattle.std.specs.Prelude.{ℕ, ◌+◌, min, ℤ, pos, ◌+ℤ◌, ◌-ℤ◌, unsigned_abs, List, [], ◌∷◌, ◌++◌, length, Option, Some, None, slice_get}
use Rattle.rand_pcg.specs.Lcg.{Lcg}
use Rattle.lucy_net.specs.Draws.{drawn}
use Rattle.lucy_plan.specs.declared.parts.Call.{Call}
use Rattle.lucy_plan.specs.declared.parts.Limits.{Limits}
use Rattle.lucy_plan.specs.declared.parts.PlanParts.{PlanParts}
use Rattle.lucy_plan.specs.declared.parts.Txn.{Txn}

-- how many numbers are drawn from: all of a range, or 4,294,967,295 where those are fewer
abbrev pub choices : Limits → ℕ
choices limits = min (unsigned_abs (limits.hi -ℤ limits.lo) + 1) 4294967295

-- an argument is drawn from the least one on
unfoldable pub drawn_argument : Limits → Lcg → ℤ × Lcg
drawn_argument limits generator =
    let number = drawn (choices limits) generator in
    (limits.lo +ℤ pos number.0, number.1)

-- an argument for each parameter, in order, behind those that were drawn
abbrev pub drawn_arguments : List ℤ → List Limits → Lcg → List ℤ × Lcg
drawn_arguments found [] generator = (found, generator)
drawn_arguments found (limits ∷ params) generator =
    let argument = drawn_argument limits generator in
    drawn_arguments (found ++ argument.0 ∷ []) params argument.1

-- the parameters of a transaction, if there is one
abbrev pub params_of : Option Txn → List Limits
params_of None = []
params_of (Some txn) = txn.params

-- a transaction of the plan, then its arguments
unfoldable pub drawn_call : PlanParts → Lcg → Call × Lcg
drawn_call plan generator =
    let txn = drawn (length plan.txns) generator in
    let arguments = drawn_arguments [] (params_of (slice_get plan.txns txn.0)) txn.1 in
    (record { txn = txn.0; arguments = arguments.0 }, arguments.1)
