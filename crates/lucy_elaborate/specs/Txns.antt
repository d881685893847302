-- Transactions.
use Rattle.std.specs.Prelude.{ℕ, ◌+◌, nat_lt, List, [], ◌∷◌, ◌++◌, length, Bool, if◌then◌else◌, Option, None, Some, Result, Ok, Err, bytes_eq}
use Rattle.std.specs.List.{list_any}
use Rattle.std.specs.Option.{option_or}
use Rattle.std.specs.Str.{is_utf8}
use Rattle.lucy_plan.specs.declared.parts.Limits.{Limits}
use Rattle.lucy_plan.specs.declared.parts.Branch.{Branch}
use Rattle.lucy_plan.specs.declared.parts.Txn.{Txn}
use Rattle.lucy_plan.specs.declared.parts.Segment.{Segment}
use Rattle.lucy_plan.specs.declared.refusal.What.TheVariants as what
use Rattle.lucy_plan.specs.Sizes.{most_txns, most_arguments}
use Rattle.lucy_tree.specs.declared.marks.Name.{Name}
use Rattle.lucy_tree.specs.declared.marks.Then.{Then}
use Rattle.lucy_tree.specs.declared.marks.Chain.{Chain}
use Rattle.lucy_tree.specs.declared.plans.Param.{Param}
use Rattle.lucy_tree.specs.declared.plans.Txn as tree
use Rattle.lucy_gather.specs.declared.error.ElabError.{ElabError}
use Rattle.lucy_gather.specs.declared.error.ElabError.TheVariants as error
use Rattle.lucy_gather.specs.declared.scopes.Meaning.{Meaning}
use Rattle.lucy_gather.specs.declared.scopes.Meaning.TheVariants as meaning
use Rattle.lucy_gather.specs.declared.scopes.Entry.{Entry}
use Rattle.lucy_gather.specs.declared.scopes.Scope.{Scope}
use Rattle.lucy_elaborate.specs.declared.txns.Head.{Head}
use Rattle.lucy_elaborate.specs.declared.txns.Found.{Found}
use Rattle.lucy_gather.specs.Steps.{Outcome, Step, ◌>>=◌, pure, refuse, lifted, each, state_of}
use Rattle.lucy_gather.specs.Ranges.{limits_between}
use Rattle.lucy_gather.specs.Tables.{held, entry_of}
use Rattle.lucy_elaborate.specs.Changes.{branches_of}

-- a name's text; a reader gives only such names
unfoldable pub text_of : Name → Result (List ℕ) ElabError
text_of name = if is_utf8 name.text then Ok name.text else Err (error.UnknownName name.span.start)

-- ---- parameters

abbrev pub head_by : List Entry → List Limits → Head
head_by params limits = record { params = params; limits = limits }

-- the place of the next parameter
unfoldable pub next_param : Step Head ℕ
next_param = λ head. if nat_lt (length head.params) most_arguments then Ok (length head.params, head) else Err (error.Limit what.Arguments (most_arguments + 1))

abbrev pub unused_by : ℕ → Option Meaning → Step Head (Unit {0})
unused_by at None = pure tt
unused_by at (Some other) = refuse (error.Twice at)

-- neither an outermost field nor an earlier parameter has the name
unfoldable pub unused : Scope → Name → Step Head (Unit {0})
unused scope name = λ head. unused_by name.span.start (option_or (held 0 name.text scope.entries) (held 0 name.text head.params)) head

unfoldable pub with_param : Name → ℕ → Limits → Step Head (Unit {0})
with_param name place limits = λ head. Ok (tt, head_by (head.params ++ entry_of 0 name.text (meaning.Argument place) ∷ []) (head.limits ++ limits ∷ []))

unfoldable pub param_in : Scope → Param → Step Head (Unit {0})
param_in scope param = do
  _ ← unused scope param.name
  place ← next_param
  limits ← lifted (limits_between param.bounds)
  with_param param.name place limits

abbrev pub later_params : Scope → List (Then Param) → Step Head (Unit {0})
later_params scope = each (λ t. param_in scope t.item)

unfoldable pub params_in : Scope → Option (Chain Param) → Step Head (Unit {0})
params_in scope None = pure tt
params_in scope (Some chain) = do
  _ ← param_in scope chain.first
  later_params scope chain.others

unfoldable pub head_of : Scope → Option (Chain Param) → Result Head ElabError
head_of scope params = state_of (params_in scope params (head_by [] []))

-- ---- transactions

abbrev pub txn_by : List ℕ → List Limits → List Branch → Txn
txn_by name limits branches = record { name = name; params = limits; branches = branches }

-- the state is the number of condition nodes so far
unfoldable pub txn_of : Scope → tree.Txn → Step ℕ Txn
txn_of scope txn = do
  name ← lifted (text_of txn.name)
  head ← lifted (head_of scope txn.params)
  branches ← branches_of scope head.params txn.branches []
  pure (txn_by name head.limits branches)

abbrev pub found_by : List Txn → List Segment → ℕ → ℕ → Found
found_by txns segments conditions points = record { txns = txns; segments = segments; conditions = conditions; points = points }

abbrev pub with_conditions : {A : Type 0} → Found → Outcome ℕ A → Outcome Found A
with_conditions found (Ok p) = Ok (p.0, found_by found.txns found.segments p.1 found.points)
with_conditions found (Err e) = Err e

-- a step that counts condition nodes, among all that was found
abbrev pub counting : {A : Type 0} → Step ℕ A → Step Found A
counting p = λ found. with_conditions found (p found.conditions)

-- the 65th transaction is one too many
unfoldable pub room_for_txn : Step Found (Unit {0})
room_for_txn = λ found. if nat_lt (length found.txns) most_txns then Ok (tt, found) else Err (error.Limit what.Transactions (most_txns + 1))

abbrev pub is_txn_named : List ℕ → List Txn → Bool
is_txn_named name txns = list_any (λ txn. bytes_eq txn.name name) txns

unfoldable pub new_txn : Name → Step Found (Unit {0})
new_txn name = λ found. if is_txn_named name.text found.txns then Err (error.Twice name.span.start) else Ok (tt, found)

unfoldable pub with_txn : Txn → Step Found (Unit {0})
with_txn txn = λ found. Ok (tt, found_by (found.txns ++ txn ∷ []) found.segments found.conditions found.points)

unfoldable pub txn_in : Scope → tree.Txn → Step Found (Unit {0})
txn_in scope txn = do
  _ ← room_for_txn
  _ ← new_txn txn.name
  made ← counting (txn_of scope txn)
  with_txn made

abbrev pub txns_in : Scope → List tree.Txn → Step Found (Unit {0})
txns_in scope = each (txn_in scope)
