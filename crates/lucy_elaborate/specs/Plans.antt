-- The plan of a tree.
use Rattle.std.specs.Prelude.{ℕ, nat_lt, nat_le, ◌==◌, ◌&&◌, ℤ, List, [], length, if◌then◌else◌, Option, None, Some, Result, Ok, Err}
use Rattle.lucy_model.specs.declared.leaves.Leaf.{Leaf}
use Rattle.lucy_model.specs.declared.conditions.Condition.{Condition}
use Rattle.lucy_plan.specs.declared.parts.PlanParts.{PlanParts}
use Rattle.lucy_plan.specs.declared.refusal.What.TheVariants as what
use Rattle.lucy_plan.specs.Sizes.{first_version, least_depth, most_depth, usual_depth}
use Rattle.lucy_plan.specs.declared.refusal.PlanError.{PlanError}
use Rattle.lucy_plan.specs.declared.refusal.PlanError.TheVariants as fault
use Rattle.lucy_plan.specs.Faults.{fault_of}
use Rattle.lucy_names.specs.declared.names.Names.{Names}
use Rattle.lucy_names.specs.Plans.{segment_names, txn_names}
use Rattle.lucy_names.specs.Tables.{differ}
use Rattle.lucy_tree.specs.declared.marks.Number.{Number}
use Rattle.lucy_tree.specs.declared.plans.Segment as tree
use Rattle.lucy_tree.specs.declared.plans.Depth.{Depth}
use Rattle.lucy_tree.specs.declared.plans.Tree.{Tree}
use Rattle.lucy_gather.specs.declared.error.ElabError.{ElabError}
use Rattle.lucy_gather.specs.declared.error.ElabError.TheVariants as error
use Rattle.lucy_gather.specs.declared.scopes.Scope.{Scope}
use Rattle.lucy_elaborate.specs.declared.txns.Found.{Found}
use Rattle.lucy_elaborate.specs.declared.plans.Rules.{Rules}
use Rattle.lucy_gather.specs.Steps.{Outcome, Step, ◌>>=◌, pure, lifted, then_of}
use Rattle.lucy_elaborate.specs.Objects.{object_of}
use Rattle.lucy_elaborate.specs.Starts.{start_of}
use Rattle.lucy_gather.specs.Conditions.{condition_of}
use Rattle.lucy_elaborate.specs.Txns.{txns_in, counting, found_by}
use Rattle.lucy_elaborate.specs.Segments.{segments_in}

unfoldable pub known_version : Number → Result (Unit {0}) ElabError
known_version number = if number.value == first_version then Ok tt else Err (error.Version number.span.start)

-- a plan has a segment
unfoldable pub some_segment : List tree.Segment → Result (Unit {0}) ElabError
some_segment segments = if nat_lt 0 (length segments) then Ok tt else Err (error.Limit what.Segments 0)

-- the transactions and the segments, in text order
unfoldable pub lists_in : Scope → Tree → Step Found (Unit {0})
lists_in scope tree = do
  _ ← txns_in scope tree.txns
  _ ← lifted (some_segment tree.segments)
  segments_in scope tree.segments

-- the invariant, then those
unfoldable pub rules_in : Scope → Tree → Step Found Condition
rules_in scope tree = do
  invariant ← counting (condition_of scope [] tree.invariant.cond)
  _ ← lists_in scope tree
  pure invariant

abbrev pub rules_by : Condition → Found → Rules
rules_by invariant found = record { invariant = invariant; found = found }

abbrev pub rules_from : Outcome Found Condition → Result Rules ElabError
rules_from (Ok p) = Ok (rules_by p.0 p.1)
rules_from (Err e) = Err e

unfoldable pub rules_of : Scope → Tree → Result Rules ElabError
rules_of scope tree = rules_from (rules_in scope tree (found_by [] [] 0 0))

-- the usual depth where none is given
unfoldable pub depth_of : Option Depth → Result ℕ ElabError
depth_of None = Ok usual_depth
depth_of (Some depth) =
    if nat_le least_depth depth.number.value && nat_le depth.number.value most_depth then Ok depth.number.value else Err (error.Limit what.Depth depth.number.value)

abbrev pub parts_by : List Leaf → List ℤ → Rules → ℕ → PlanParts
parts_by object start rules depth =
    record { object = object; start = start; invariant = rules.invariant; txns = rules.found.txns; segments = rules.found.segments; depth = depth }

-- the parts that a tree gives, or the first refusal in text order
unfoldable pub parts_of : Tree → Result PlanParts ElabError
parts_of tree =
    then_of (known_version tree.version) λ _.
    then_of (object_of tree.object.fields) λ scope.
    then_of (start_of scope tree.start.settings) λ start.
    then_of (rules_of scope tree) λ rules.
    then_of (depth_of tree.depth) λ depth.
    Ok (parts_by scope.leaves start rules depth)

-- ---- the plan and its names

-- how a fault of parts would be told. `at` is the place of `end`
abbrev pub refused : ℕ → PlanError → ElabError
refused at (fault.Limit what count) = error.Limit what count
refused at (fault.BadStart leaf) = error.BadStart at
refused at (fault.BadIndex index) = error.Kind at
refused at fault.OutOfMemory = error.OutOfMemory

abbrev pub accepted_by : ℕ → PlanParts → Option PlanError → Result PlanParts ElabError
accepted_by at parts None = Ok parts
accepted_by at parts (Some e) = Err (refused at e)

-- the parts, where they are a plan
unfoldable pub accepted : ℕ → PlanParts → Result PlanParts ElabError
accepted at parts = accepted_by at parts (fault_of parts)

abbrev pub names_of : PlanParts → Names
names_of plan = record { segments = segment_names plan; txns = txn_names plan }

-- the names that the plan holds, where they differ
unfoldable pub named : ℕ → PlanParts → Result Names ElabError
named at plan = if differ (segment_names plan) && differ (txn_names plan) then Ok (names_of plan) else Err (error.Twice at)

-- the plan of a tree and its names, or the first refusal in text order
unfoldable pub elaborated : Tree → Result (PlanParts × Names) ElabError
elaborated tree =
    then_of (parts_of tree) λ parts.
    then_of (accepted tree.end_word.start parts) λ plan.
    then_of (named tree.end_word.start plan) λ names.
    Ok (plan, names)
