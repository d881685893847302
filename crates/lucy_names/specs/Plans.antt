-- The names that a plan holds.
use Rattle.std.specs.Prelude.{◌≡◌, ℕ, List, map}
use Rattle.lucy_plan.specs.declared.parts.PlanParts.{PlanParts}
use Rattle.lucy_names.specs.declared.names.Names.{Names}

abbrev pub segment_names : PlanParts → List (List ℕ)
segment_names plan = map (λ segment. segment.name) plan.segments

abbrev pub txn_names : PlanParts → List (List ℕ)
txn_names plan = map (λ txn. txn.name) plan.txns

-- the names are those that the plan itself holds, in order
pub record AreNamesOf (plan : PlanParts) (names : Names) : Type 0 where
  pub segments : names.segments ≡ segment_names plan
  pub txns : names.txns ≡ txn_names plan
