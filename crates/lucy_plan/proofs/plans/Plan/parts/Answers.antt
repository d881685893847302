use Rattle.lucy_plan.proofs.Kept.{plan_kept}
use Rattle.lucy_plan.proofs.plans.Plan.parts.Goals as goal

pub returns-clause-kept : goal.returns-clause-kept
returns-clause-kept c = plan_kept c.self.inside.parts c.self.invariant
