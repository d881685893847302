-- Which calls a plan takes, and what a call makes of a state.
use Rattle.std.specs.Prelude.{ℤ, Bool, true, false, ◌&&◌, IsTrue, int_le, List, [], ◌∷◌, Option, Some, None, find, slice_get, slice_set}
use Rattle.lucy_model.specs.Terms.{term_value}
use Rattle.lucy_model.specs.Conditions.{holds_at}
use Rattle.lucy_plan.specs.declared.parts.Limits.{Limits}
use Rattle.lucy_plan.specs.declared.parts.Set.{Set}
use Rattle.lucy_plan.specs.declared.parts.Branch.{Branch}
use Rattle.lucy_plan.specs.declared.parts.Txn.{Txn}
use Rattle.lucy_plan.specs.declared.parts.Call.{Call}
use Rattle.lucy_plan.specs.declared.parts.PlanParts.{PlanParts}

-- there is one argument for each parameter, and each is in its parameter's range
abbrev pub are_arguments : List Limits → List ℤ → Bool
are_arguments [] [] = true
are_arguments (limits ∷ params) (x ∷ arguments) = int_le limits.lo x && int_le x limits.hi && are_arguments params arguments
are_arguments _ _ = false

-- the call's transaction, if the plan has it
abbrev pub txn_of : PlanParts → Call → Option Txn
txn_of plan call = slice_get plan.txns call.txn

-- a transaction, if there is one, takes these arguments
abbrev pub takes : Option Txn → List ℤ → Bool
takes None arguments = false
takes (Some txn) arguments = are_arguments txn.params arguments

-- the transaction exists, and the arguments are as many as it has parameters, each in its range
abbrev pub call_fits : PlanParts → Call → Bool
call_fits plan call = takes (txn_of plan call) call.arguments

-- a call fits a plan
abbrev pub Fits : PlanParts → Call → Type 0
Fits plan call = IsTrue (call_fits plan call)

-- a transaction's branches
abbrev pub branches_of : Option Txn → List Branch
branches_of None = []
branches_of (Some txn) = txn.branches

-- the first branch whose condition holds in a state
abbrev pub first_holding : List Branch → List ℤ → List ℤ → Option Branch
first_holding branches state arguments = find (λ branch. holds_at branch.when state arguments) branches

-- the branch by which a call changes a state, if there is one
abbrev pub branch_of : PlanParts → Call → List ℤ → Option Branch
branch_of plan call state = first_holding (branches_of (txn_of plan call)) state call.arguments

-- the numbers with each set leaf given its term's value in the state
abbrev pub with_sets : List Set → List ℤ → List ℤ → List ℤ → List ℤ
with_sets [] state arguments numbers = numbers
with_sets (change ∷ sets) state arguments numbers = with_sets sets state arguments (slice_set numbers change.leaf (term_value change.to state arguments))

-- the state, changed by a branch if there is one
abbrev pub changed_by : Option Branch → List ℤ → List ℤ → List ℤ
changed_by None state arguments = state
changed_by (Some branch) state arguments = with_sets branch.sets state arguments state

-- the result of a call: the first branch whose condition holds in the state gives each leaf that it sets
-- its term's value in the state; all other leaves, and without such a branch all, keep their numbers
abbrev pub applied : PlanParts → Call → List ℤ → List ℤ
applied plan call state = changed_by (branch_of plan call state) state call.arguments
