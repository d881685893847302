-- What a work text says.
use Rattle.std.specs.Prelude.{ℕ, ◌+◌, ◌-◌, ◌^◌, nat_lt, nat_le, min, ℤ, ◌&&◌, if◌then◌else◌, List, [], ◌∷◌, ◌++◌, length, slice_get, slice_set, slice_index_or, replicate, Option, Some, None, codes, Ok, Err}
use Rattle.lucy_names.specs.Plans.{txn_names}
use Rattle.lucy_names.specs.Tables.{place_of}
use Rattle.lucy_plan.specs.declared.parts.Call.{Call}
use Rattle.lucy_plan.specs.declared.parts.Limits.{Limits}
use Rattle.lucy_plan.specs.declared.parts.PlanParts.{PlanParts}
use Rattle.lucy_plan.specs.declared.parts.Txn.{Txn}
use Rattle.lucy_plan.specs.declared.refusal.What.TheVariants.{Replicas, Calls}
use Rattle.lucy_calls.specs.declared.error.CallsError.{CallsError}
use Rattle.lucy_calls.specs.declared.error.CallsError.TheVariants.{BadLine, UnknownTxn, BadArgument, Limit}
use Rattle.lucy_calls.specs.Fields.{fields_of, heading}
use Rattle.lucy_calls.specs.Lines.{within_bytes, Listing, listing, next, up_to_end}
use Rattle.lucy_calls.specs.Numbers.{number, number_behind, between, below}
use Rattle.lucy_io.specs.Outcomes.{Outcome, ◌>>=◌}

-- 1 to 16 replicas
abbrev pub within : ℕ → Outcome CallsError ℕ
within count = if nat_le 1 count && nat_le count 16 then Ok count else Err (Limit Replicas (min count (2 ^ 64 - 1)))

unfoldable pub replicas_in : ℕ → List (List ℕ) → Outcome CallsError ℕ
replicas_in n (word ∷ digits ∷ []) = number_behind (codes "replicas") n word digits >>= within
replicas_in n _ = Err (BadLine n)

-- `replicas N`
unfoldable pub replicas_of : ℕ → List ℕ → Outcome CallsError ℕ
replicas_of n line = fields_of n line >>= replicas_in n

abbrev pub or_bad_argument : ℕ → Option ℤ → Outcome CallsError ℤ
or_bad_argument n None = Err (BadArgument n)
or_bad_argument n (Some x) = Ok x

-- a number within a parameter's range
abbrev pub argument : ℕ → Limits → List ℕ → Outcome CallsError ℤ
argument n limits text = or_bad_argument n (between limits.lo limits.hi text)

-- an argument for each parameter, behind those that were read
abbrev pub arguments_of : ℕ → List ℤ → List Limits → List (List ℕ) → Outcome CallsError (List ℤ)
arguments_of n found [] [] = Ok found
arguments_of n found (limits ∷ params) (text ∷ texts) = argument n limits text >>= λ x. arguments_of n (found ++ x ∷ []) params texts
arguments_of n found _ _ = Err (BadArgument n)

abbrev pub or_unknown : ℕ → Option ℕ → Outcome CallsError ℕ
or_unknown n None = Err (UnknownTxn n)
or_unknown n (Some place) = Ok place

-- the transaction with this name
abbrev pub txn_named : PlanParts → ℕ → List ℕ → Outcome CallsError ℕ
txn_named plan n name = or_unknown n (place_of (txn_names plan) name)

abbrev pub params_of : Option Txn → List Limits
params_of None = []
params_of (Some txn) = txn.params

-- a call: a transaction's name, and its arguments
unfoldable pub call_of : PlanParts → ℕ → List ℕ → List (List ℕ) → Outcome CallsError Call
call_of plan n name texts = do
  txn ← txn_named plan n name
  arguments ← arguments_of n [] (params_of (slice_get plan.txns txn)) texts
  Ok (record { txn = txn; arguments = arguments })

-- a call, and the number of the replica that is to make it
abbrev pub Placed : Type 0
Placed = ℕ × Call

unfoldable pub placed : PlanParts → ℕ → ℕ → List ℕ → List ℕ → List (List ℕ) → Outcome CallsError Placed
placed plan replicas n digits name texts = do
  number ← number n digits
  replica ← below replicas n number
  call ← call_of plan n name texts
  Ok (replica, call)

-- `J NAME` and the arguments
unfoldable pub placed_of : PlanParts → ℕ → ℕ → List (List ℕ) → Outcome CallsError Placed
placed_of plan replicas n (digits ∷ name ∷ texts) = placed plan replicas n digits name texts
placed_of plan replicas n _ = Err (BadLine n)

-- a call behind the others of its replica, 4,096 at the most
unfoldable pub put : Placed → List (List Call) → Outcome CallsError (List (List Call))
put p lists =
    let calls = slice_index_or lists p.0 [] in
    if nat_lt (length calls) 4096 then Ok (slice_set lists p.0 (calls ++ p.1 ∷ [])) else Err (Limit Calls 4097)

-- a line's call behind the others of its replica
unfoldable pub with_call : PlanParts → ℕ → ℕ → List ℕ → List (List Call) → Outcome CallsError (List (List Call))
with_call plan replicas n line lists = do
  fields ← fields_of n line
  p ← placed_of plan replicas n fields
  put p lists

-- the call lines and the line `end`
unfoldable pub lists_of : PlanParts → ℕ → Listing → Outcome CallsError (List (List Call))
lists_of plan replicas lines = up_to_end (with_call plan replicas) (replicate replicas []) lines

-- the lines `work 1` and `replicas N`, the calls, the line `end`
unfoldable pub text_of : PlanParts → List ℕ → Outcome CallsError (List (List Call))
text_of plan text = do
  found ← next (heading (codes "work")) (listing 1 text)
  counted ← next replicas_of found.1
  lists_of plan counted.0 counted.1

-- a work text has at most 2 ^ 25 bytes
unfoldable pub work_of : PlanParts → List ℕ → Outcome CallsError (List (List Call))
work_of plan text = within_bytes (2 ^ 25) text >>= λ _. text_of plan text
