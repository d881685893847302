use Rattle.std.proofs.Common.{rules, ◌≡◌, ◌∙◌, ap}
use Rattle.lucy_model.specs.Merging.{merged_all}
use Rattle.lucy_plan.specs.Calls.{applied}
use Rattle.lucy_plan.specs.declared.parts.PlanParts.{PlanParts}
use Rattle.lucy_audit.specs.Checks.{left_of}
use Rattle.lucy_audit.proofs.Reopening.{states_are}
use Rattle.lucy_audit.proofs.kept.Kept.opening.Goals as goal

pub returns-clause-value : goal.returns-clause-value
returns-clause-value c =
    let before = c.args.before.now in
    let call = c.args.call.now in
    let plan : c.deref.result.now ≡ before.plan = search rules in
    c.apply.ensures.value ∙ ap (λ (p : PlanParts). applied p call c.in_ok-state.state) plan
    ∙ ap (applied before.plan call) (c.in_ok-state.ensures.state ∙ ap (merged_all before.plan.object) (states_are before c.args.number (left_of c.args.self.now).replicas))
