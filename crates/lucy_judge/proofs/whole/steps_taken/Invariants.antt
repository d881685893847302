use Rattle.std.proofs.Common.{◌≡◌, drop}
use Rattle.std.specs.Prelude.{fold}
use Rattle.lucy_plan.specs.declared.parts.PlanParts.{PlanParts}
use Rattle.lucy_judge.specs.Keeping.{IsTrial}
use Rattle.lucy_judge.specs.Trials as spec
use Rattle.lucy_judge.proofs.whole.steps_taken.Given as goal

abbrev pub invariant-loop-step : goal.invariant-loop-step
invariant-loop-step l =
    (fold spec.step_taken l.trial (drop l.step-index l.steps) ≡ fold spec.step_taken l.fn.trial l.steps) × ((plan : PlanParts) → IsTrial plan l.fn.trial → IsTrial plan l.trial)
