-- Why parts are no plan: the first cause, in the order in which causes are told.
use Rattle.std.specs.Prelude.{ℕ, ◌+◌, ℤ, nat_lt, nat_le, ◌==◌, min, unsigned_abs, ◌&&◌, if◌then◌else◌, List, [], ◌∷◌, ◌++◌, length, map, Option, None, Some, Result, MatchResult, ◌≡◌}
use Rattle.std.specs.Option.{option_or}
use Rattle.std.specs.List.{list_all, list_any}
use Rattle.lucy_model.specs.Ranges.{allows, all_allowed}
use Rattle.lucy_model.specs.declared.leaves.Leaf.{Leaf}
use Rattle.lucy_model.specs.declared.terms.Share.{Share}
use Rattle.lucy_model.specs.declared.terms.Term.{Term}
use Rattle.lucy_model.specs.declared.conditions.Condition.{Condition}
use Rattle.lucy_model.specs.declared.conditions.Condition.TheOpen.{Condition-F}
use Rattle.lucy_model.specs.declared.conditions.Condition.TheFolds.{fold-Condition}
use Rattle.lucy_plan.specs.declared.parts.Set.{Set}
use Rattle.lucy_plan.specs.declared.parts.Branch.{Branch}
use Rattle.lucy_plan.specs.declared.parts.Txn.{Txn}
use Rattle.lucy_plan.specs.declared.parts.Segment.{Segment}
use Rattle.lucy_plan.specs.declared.parts.PlanParts.{PlanParts}
use Rattle.lucy_plan.specs.declared.refusal.What.{What}
use Rattle.lucy_plan.specs.declared.refusal.What.TheVariants as what
use Rattle.lucy_plan.specs.declared.refusal.PlanError.{PlanError}
use Rattle.lucy_plan.specs.declared.refusal.PlanError.TheVariants.{Limit, BadStart, BadIndex}
use Rattle.lucy_plan.specs.declared.rules.Rule.{Rule}
use Rattle.lucy_plan.specs.declared.rules.Rule.TheVariants.{Factors, Constants, Slots, Orders}
use Rattle.lucy_plan.specs.Counts.{most_told, plan_nodes, plan_points}
use Rattle.lucy_plan.specs.Sizes.{first_version, most_factor, most_constant, most_leaves, most_nodes, most_txns, most_arguments, most_segments, most_points, least_depth, most_depth}

-- a test accepts where there is no fault, and refuses with the fault where there is one
abbrev pub Answers : {T : Type 0} → Option PlanError → Result T PlanError → Type 0
Answers fault result = MatchResult result (λ _. fault ≡ None) (λ e. fault ≡ Some e)

-- the first fault that there is
abbrev pub first_of : List (Option PlanError) → Option PlanError
first_of [] = None
first_of (fault ∷ faults) = option_or fault (first_of faults)

-- a count is outside its limit
abbrev pub limit : What → ℕ → ℕ → ℕ → Option PlanError
limit what least most count = if nat_le least count && nat_le count most then None else Some (Limit what count)

-- the first factor above its limit
abbrev pub factor_fault : List Share → Option PlanError
factor_fault [] = None
factor_fault (share ∷ shares) = option_or (limit what.Coefficient 0 most_factor (unsigned_abs share.by)) (factor_fault shares)

-- the first slot that is not below `end`
abbrev pub slot_fault : ℕ → List Share → Option PlanError
slot_fault end [] = None
slot_fault end (share ∷ shares) = if nat_lt share.slot end then slot_fault end shares else Some (BadIndex share.slot)

-- the first slot that is below `from`, or not above the one before it
abbrev pub order_fault : ℕ → List Share → Option PlanError
order_fault from [] = None
order_fault from (share ∷ shares) = if nat_le from share.slot then order_fault (share.slot + 1) shares else Some (BadIndex share.slot)

-- where a term over so many leaves and arguments breaks a rule
abbrev pub term_fault : Rule → ℕ → ℕ → Term → Option PlanError
term_fault Factors leaves arguments term = option_or (factor_fault term.leaves) (factor_fault term.arguments)
term_fault Constants leaves arguments term = limit what.Constant 0 most_constant (unsigned_abs term.constant)
term_fault Slots leaves arguments term = option_or (slot_fault leaves term.leaves) (slot_fault arguments term.arguments)
term_fault Orders leaves arguments term = option_or (order_fault 0 term.leaves) (order_fault 0 term.arguments)

-- where a place that is named alone breaks a rule: it is out of range
abbrev pub place_fault : Rule → ℕ → ℕ → Option PlanError
place_fault Slots end place = if nat_lt place end then None else Some (BadIndex place)
place_fault Factors end place = None
place_fault Constants end place = None
place_fault Orders end place = None

-- where a condition breaks a rule, of the faults of its parts
abbrev pub fault_step : Rule → ℕ → ℕ → Condition-F (Option PlanError) → Option PlanError
fault_step rule leaves arguments Condition-F.True = None
fault_step rule leaves arguments Condition-F.False = None
fault_step rule leaves arguments (Condition-F.Compare term op) = term_fault rule leaves arguments term
fault_step rule leaves arguments (Condition-F.Is leaf) = place_fault rule leaves leaf
fault_step rule leaves arguments (Condition-F.Not part) = part
fault_step rule leaves arguments (Condition-F.And parts) = first_of parts
fault_step rule leaves arguments (Condition-F.Or parts) = first_of parts
fault_step rule leaves arguments (Condition-F.Implies left right) = option_or left right

-- where a condition over so many leaves and arguments first breaks a rule
abbrev pub condition_fault : Rule → ℕ → ℕ → Condition → Option PlanError
condition_fault rule leaves arguments = fold-Condition (Option PlanError) (fault_step rule leaves arguments)

abbrev pub set_fault : Rule → ℕ → ℕ → Set → Option PlanError
set_fault rule leaves arguments change = option_or (place_fault rule leaves change.leaf) (term_fault rule leaves arguments change.to)

abbrev pub branch_fault : Rule → ℕ → ℕ → Branch → Option PlanError
branch_fault rule leaves arguments branch =
    option_or (condition_fault rule leaves arguments branch.when) (first_of (map (set_fault rule leaves arguments) branch.sets))

abbrev pub txn_fault : Rule → ℕ → Txn → Option PlanError
txn_fault rule leaves txn = first_of (map (branch_fault rule leaves (length txn.params)) txn.branches)

-- the transactions of a segment are places below `txns`
abbrev pub segment_fault : Rule → ℕ → ℕ → Segment → Option PlanError
segment_fault rule leaves txns segment = option_or (condition_fault rule leaves 0 segment.condition) (first_of (map (place_fault rule txns) segment.txns))

-- where a plan first breaks a rule: in the invariant, then in the transactions, then in the segments
abbrev pub rule_fault : Rule → PlanParts → Option PlanError
rule_fault rule plan =
    option_or (condition_fault rule (length plan.object) 0 plan.invariant)
    (option_or (first_of (map (txn_fault rule (length plan.object)) plan.txns))
    (first_of (map (segment_fault rule (length plan.object) (length plan.txns)) plan.segments)))

-- the first transaction with too many parameters
abbrev pub params_fault : Txn → Option PlanError
params_fault txn = limit what.Arguments 0 most_arguments (length txn.params)

-- the first number outside its leaf's range, where the lists begin at the place `from`
abbrev pub range_fault : ℕ → List Leaf → List ℤ → Option PlanError
range_fault from (leaf ∷ leaves) (x ∷ xs) = if allows leaf x then range_fault (from + 1) leaves xs else Some (BadStart from)
range_fault from _ _ = None

-- two lengths differ: the shorter is told
abbrev pub length_fault : ℕ → ℕ → Option PlanError
length_fault leaves numbers = if leaves == numbers then None else Some (BadStart (min leaves numbers))

-- the start is no state of the object
abbrev pub start_fault : PlanParts → Option PlanError
start_fault plan = option_or (range_fault 0 plan.object plan.start) (length_fault (length plan.object) (length plan.start))

-- the first leaf that is set again, after these changes
abbrev pub again_fault : List Set → List Set → Option PlanError
again_fault before [] = None
again_fault before (change ∷ sets) =
    if list_any (λ earlier. earlier.leaf == change.leaf) before then Some (BadIndex change.leaf) else again_fault (before ++ change ∷ []) sets

-- the first leaf that a branch sets twice
abbrev pub branch_twice_fault : Branch → Option PlanError
branch_twice_fault branch = again_fault [] branch.sets

-- the first leaf that a branch of a transaction sets twice
abbrev pub twice_fault : Txn → Option PlanError
twice_fault txn = first_of (map branch_twice_fault txn.branches)

-- the first segment with a left-out point that is no state of the object, where the list begins at the place `from`
abbrev pub points_fault : ℕ → List Leaf → List Segment → Option PlanError
points_fault from object [] = None
points_fault from object (segment ∷ segments) = if list_all (all_allowed object) segment.excepts then points_fault (from + 1) object segments else Some (BadIndex from)

-- a size or a number of conditions is outside its limit
abbrev pub size_fault : PlanParts → Option PlanError
size_fault plan = first_of
    (limit what.Leaves 1 (most_leaves first_version) (length plan.object)
    ∷ rule_fault Factors plan
    ∷ rule_fault Constants plan
    ∷ limit what.Conditions 0 most_nodes (min (plan_nodes plan) most_told)
    ∷ [])

-- a number of transactions, of parameters, of segments or of points, or the depth, is outside its limit
abbrev pub count_fault : PlanParts → Option PlanError
count_fault plan = first_of
    (limit what.Transactions 0 most_txns (length plan.txns)
    ∷ first_of (map params_fault plan.txns)
    ∷ limit what.Segments 1 most_segments (length plan.segments)
    ∷ limit what.Points 0 most_points (min (plan_points plan) most_told)
    ∷ limit what.Depth least_depth most_depth plan.depth
    ∷ [])

-- a place does not exist, is out of order or is set twice, or a left-out point is no state of the object
abbrev pub index_fault : PlanParts → Option PlanError
index_fault plan = first_of
    (rule_fault Slots plan
    ∷ rule_fault Orders plan
    ∷ first_of (map twice_fault plan.txns)
    ∷ points_fault 0 plan.object plan.segments
    ∷ [])

-- why the parts are no plan, if they are none: a limit, else the start, else a place
abbrev pub fault_of : PlanParts → Option PlanError
fault_of plan = first_of (size_fault plan ∷ count_fault plan ∷ start_fault plan ∷ index_fault plan ∷ [])
