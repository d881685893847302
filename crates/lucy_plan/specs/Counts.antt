-- How much a plan holds.
use Rattle.std.specs.Prelude.{ℕ, ◌+◌, ◌-◌, ◌^◌, length, sum, sum_by}
use Rattle.lucy_model.specs.declared.conditions.Condition.{Condition}
use Rattle.lucy_model.specs.declared.conditions.Condition.TheOpen.{Condition-F}
use Rattle.lucy_model.specs.declared.conditions.Condition.TheFolds.{fold-Condition}
use Rattle.lucy_plan.specs.declared.parts.Txn.{Txn}
use Rattle.lucy_plan.specs.declared.parts.PlanParts.{PlanParts}

-- the greatest count that is told
abbrev pub most_told : ℕ
most_told = 2 ^ 64 - 1

-- a condition's nodes, of the numbers of nodes of its parts
abbrev pub node_step : Condition-F ℕ → ℕ
node_step (Condition-F.Not part) = part + 1
node_step (Condition-F.And parts) = sum parts + 1
node_step (Condition-F.Or parts) = sum parts + 1
node_step (Condition-F.Implies left right) = left + right + 1
node_step _ = 1

-- how many nodes a condition has: itself and those of its parts
abbrev pub nodes_of : Condition → ℕ
nodes_of = fold-Condition ℕ node_step

-- how many nodes the conditions of a transaction have
abbrev pub txn_nodes : Txn → ℕ
txn_nodes txn = sum_by (λ branch. nodes_of branch.when) txn.branches

-- how many nodes the conditions of a plan have
abbrev pub plan_nodes : PlanParts → ℕ
plan_nodes plan = nodes_of plan.invariant + sum_by txn_nodes plan.txns + sum_by (λ segment. nodes_of segment.condition) plan.segments

-- how many points the segments of a plan leave out
abbrev pub plan_points : PlanParts → ℕ
plan_points plan = sum_by (λ segment. length segment.excepts) plan.segments
