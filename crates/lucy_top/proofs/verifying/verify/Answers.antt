use Rattle.std.proofs.Common.{sym, subst, ◌∙◌, Option, List, ℕ}
use Rattle.std.specs.Prelude.{IfOk}
use Rattle.std.proofs.lemmas.Result.{err_from_is_err_and}
use Rattle.std.specs.Arc.{arc_value}
use Rattle.lucy_judge.specs.declared.refusal.Refusal.{Refusal}
use Rattle.lucy_plan.specs.declared.parts.PlanParts.{PlanParts}
use Rattle.lucy_top.specs.Commands.{verify_script, asks_certificate}
use Rattle.lucy_top.specs.Judging.{refusal_in}
use Rattle.lucy_top.specs.Script.{Script, ends}
use Rattle.lucy_top.specs.Verdicts.{verifies, Says}
use Rattle.lucy_top.proofs.verifying.verify.Goals as goal

-- what is asked for once the plan is read
abbrev after_plan : List ℕ → PlanParts → Script
after_plan name plan = asks_certificate name plan (λ (refusal : Option Refusal). ends (verifies plan refusal))

pub returns-in_err-judged-clause-follows : goal.returns-in_err-judged-clause-follows
unfolding verify_script
returns-in_err-judged-clause-follows g c = λ told same.
    let plan = arc_value c.in_ok-plan.plan in
    let last = g.I.Inputs.journal c.load_certificate.new.inputs in
    let p = err_from_is_err_and c.from_residual-in_err-judged.result c.from_residual-in_err-judged.ensures.1 in
    rw (p.1, p.2) (c.in_ok-plan.ensures.loads told same (after_plan c.args.certificate_name.now) last _
    (c.in_err-judged.ensures.loads told (same ∙ sym c.load_plan.ensures.told) (λ refusal. ends (verifies plan refusal))))

pub returns-clause-follows : goal.returns-clause-follows
unfolding verify_script
returns-clause-follows g c = λ told same.
    let plan = arc_value c.in_ok-plan.plan in
    let last = g.I.Inputs.journal c.load_certificate.new.inputs in
    let refusal = refusal_in c.in_ok-judged.judged in
    let said = subst (λ (p : PlanParts). IfOk c.say_judged.result (λ s. Says (verifies p refusal) s.status s.text.items)) c.in_ok-judged.ensures.plan c.say_judged.ensures in
    c.in_ok-plan.ensures.loads told same (after_plan c.args.certificate_name.now) last c.conclude.result
    (c.in_ok-judged.ensures.loads told (same ∙ sym c.load_plan.ensures.told) (λ refusal. ends (verifies plan refusal)) last c.conclude.result
    (c.conclude.ensures (verifies plan (refusal_in c.in_ok-judged.judged)) said told last))
