-- What the parts of a plan keep.
use Rattle.std.specs.Prelude.{◌≡◌, ℕ, ◌≤◌, ◌&&◌, nat_lt, nat_le, Bool, true, is_none, length}
use Rattle.std.specs.List.{list_all}
use Rattle.lucy_model.specs.Ranges.{all_allowed}
use Rattle.lucy_model.specs.Terms.{is_term}
use Rattle.lucy_model.specs.Conditions.{is_condition}
use Rattle.lucy_plan.specs.declared.parts.Set.{Set}
use Rattle.lucy_plan.specs.declared.parts.Branch.{Branch}
use Rattle.lucy_plan.specs.declared.parts.Txn.{Txn}
use Rattle.lucy_plan.specs.declared.parts.Segment.{Segment}
use Rattle.lucy_plan.specs.declared.parts.PlanParts.{PlanParts}
use Rattle.lucy_plan.specs.Faults.{fault_of}
use Rattle.lucy_plan.specs.Sizes.{first_version, most_leaves, most_txns, most_arguments, most_segments, least_depth, most_depth}

-- the parts are a plan
abbrev pub is_plan : PlanParts → Bool
is_plan plan = is_none (fault_of plan)

-- a change over so many leaves and arguments
abbrev pub is_set : ℕ → ℕ → Set → Bool
is_set leaves arguments change = nat_lt change.leaf leaves && is_term leaves arguments change.to

-- a branch over so many leaves and arguments
abbrev pub is_branch : ℕ → ℕ → Branch → Bool
is_branch leaves arguments branch = is_condition leaves arguments branch.when && list_all (is_set leaves arguments) branch.sets

-- a transaction over so many leaves
abbrev pub is_txn : ℕ → Txn → Bool
is_txn leaves txn = nat_le (length txn.params) most_arguments && list_all (is_branch leaves (length txn.params)) txn.branches

-- a segment over so many leaves and transactions
abbrev pub is_segment : ℕ → ℕ → Segment → Bool
is_segment leaves txns segment = is_condition leaves 0 segment.condition && list_all (λ txn. nat_lt txn txns) segment.txns

-- what is known of a plan's parts, beside that nothing is wrong with them
pub record IsPlan (plan : PlanParts) : Type 0 where
  pub leaves_some : 1 ≤ length plan.object
  pub leaves_few : length plan.object ≤ most_leaves first_version
  pub start : all_allowed plan.object plan.start ≡ true
  pub invariant : is_condition (length plan.object) 0 plan.invariant ≡ true
  pub txns_few : length plan.txns ≤ most_txns
  pub txns : list_all (is_txn (length plan.object)) plan.txns ≡ true
  pub segments_some : 1 ≤ length plan.segments
  pub segments_few : length plan.segments ≤ most_segments
  pub segments : list_all (is_segment (length plan.object) (length plan.txns)) plan.segments ≡ true
  pub points : list_all (λ segment. list_all (all_allowed plan.object) segment.excepts) plan.segments ≡ true
  pub depth_least : least_depth ≤ plan.depth
  pub depth_most : plan.depth ≤ most_depth
