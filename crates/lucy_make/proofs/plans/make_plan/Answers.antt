use Rattle.std.proofs.Common.{IfOk, ◌≡◌, ◌∙◌, ap, subst, List, ℕ}
use Rattle.lucy_make.specs.PlanTexts.{plan_text}
use Rattle.lucy_make.specs.Plans.{made_plan}
use Rattle.lucy_make.proofs.DrawnValues.{plan_is}
use Rattle.lucy_make.proofs.plans.make_plan.Goals as goal

pub returns : goal.returns
returns c =
    let made = plan_is c.args.seed c.args.size c.new-chaos.result c.draw_heights.new.chaos c.draw_gaps.new.chaos c.in_ok-heights.heights.items c.in_ok-gaps.gaps.items c.new-chaos.ensures c.in_ok-heights.ensures c.in_ok-gaps.ensures in
    let same : plan_text c.as_slice.result.now c.as_slice-2.result.now ≡ made_plan c.args.seed c.args.size =
    ap (λ hs. plan_text hs c.as_slice-2.result.now) c.as_slice.ensures.value ∙ ap (λ gs. plan_text c.in_ok-heights.heights.items gs) c.as_slice-2.ensures.value ∙ made in
    subst (λ (wanted : List ℕ). IfOk c.plan_text.result (λ text. text.items ≡ wanted)) same c.plan_text.ensures
