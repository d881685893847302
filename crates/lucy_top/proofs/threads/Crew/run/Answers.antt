use Rattle.std.proofs.Common.{sym, subst, ◌∙◌, Option, List, ℕ}
use Rattle.std.specs.Prelude.{IfOk}
use Rattle.std.proofs.lemmas.Result.{err_from_is_err_and}
use Rattle.std.specs.Arc.{arc_value}
use Rattle.lucy_judge.specs.declared.refusal.Refusal.{Refusal}
use Rattle.lucy_plan.specs.declared.parts.Call.{Call}
use Rattle.lucy_plan.specs.declared.parts.PlanParts.{PlanParts}
use Rattle.lucy_top.specs.Commands.{run_script, asks_certificate, asks_work}
use Rattle.lucy_top.specs.Judging.{refusal_in}
use Rattle.lucy_top.specs.Outcomes.{Choice}
use Rattle.lucy_top.specs.Script.{Script, ends}
use Rattle.lucy_top.specs.Verdicts.{runs, Says}
use Rattle.lucy_top.proofs.threads.Crew.run.Goals as goal

-- what is asked for once the certificate is read, and before
abbrev after_certificate : Choice → List ℕ → PlanParts → Option Refusal → Script
after_certificate choice work plan refusal = asks_work work plan (λ (found : List (List Call)). ends (runs choice plan refusal found))

abbrev after_plan : Choice → List ℕ → List ℕ → PlanParts → Script
after_plan choice certificate work plan = asks_certificate certificate plan (after_certificate choice work plan)

pub returns-in_err-judged-clause-follows : goal.returns-in_err-judged-clause-follows
unfolding run_script
returns-in_err-judged-clause-follows g c = λ told choice same suits.
    let plan = arc_value c.in_ok-plan.plan in
    let last = g.I.Inputs.journal c.load_certificate.new.inputs in
    let p = err_from_is_err_and c.from_residual-in_err-judged.result c.from_residual-in_err-judged.ensures.1 in
    rw (p.1, p.2) (c.in_ok-plan.ensures.loads told same (after_plan choice c.args.certificate_name.now c.args.work_name.now) last _
    (c.in_err-judged.ensures.loads told (same ∙ sym c.load_plan.ensures.told) (after_certificate choice c.args.work_name.now plan)))

pub returns-in_err-work-clause-follows : goal.returns-in_err-work-clause-follows
unfolding run_script
returns-in_err-work-clause-follows g c = λ told choice same suits.
    let plan = arc_value c.in_ok-plan.plan in
    let last = g.I.Inputs.journal c.load_work.new.inputs in
    let refusal = refusal_in c.in_ok-judged.judged in
    let same_1 = same ∙ sym c.load_plan.ensures.told in
    let work_loads = rw c.deref.ensures at c.in_err-work.ensures.loads in
    let p = err_from_is_err_and c.from_residual-in_err-work.result c.from_residual-in_err-work.ensures.1 in
    rw (p.1, p.2) (c.in_ok-plan.ensures.loads told same (after_plan choice c.args.certificate_name.now c.args.work_name.now) last _
    (c.in_ok-judged.ensures.loads told same_1 (after_certificate choice c.args.work_name.now plan) last _
    (work_loads told (same_1 ∙ sym c.load_certificate.ensures.told) (λ found. ends (runs choice plan refusal found)))))

pub returns-clause-follows : goal.returns-clause-follows
unfolding run_script
returns-clause-follows g c = λ told choice same suits.
    let plan = arc_value c.in_ok-plan.plan in
    let last = g.I.Inputs.journal c.load_work.new.inputs in
    let refusal = refusal_in c.in_ok-judged.judged in
    let work = c.in_ok-work.work.lists in
    let same_1 = same ∙ sym c.load_plan.ensures.told in
    let same_2 = same_1 ∙ sym c.load_certificate.ensures.told in
    let work_loads = rw c.deref.ensures at c.in_ok-work.ensures.loads in
    let said = subst (λ (p : PlanParts). IfOk c.say_judged.result (λ s. Says (runs choice p refusal work) s.status s.text.items)) c.in_ok-judged.ensures.plan (c.say_judged.ensures.says choice suits) in
    c.in_ok-plan.ensures.loads told same (after_plan choice c.args.certificate_name.now c.args.work_name.now) last c.conclude.result
    (c.in_ok-judged.ensures.loads told same_1 (after_certificate choice c.args.work_name.now plan) last c.conclude.result
    (work_loads told same_2 (λ found. ends (runs choice plan refusal found)) last c.conclude.result
    (c.conclude.ensures (runs choice plan refusal work) said told last)))
