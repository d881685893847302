use Rattle.std.proofs.Common.{sym, subst, ◌∙◌, Option, List, ℕ, length}
use Rattle.std.specs.Prelude.{IfOk}
use Rattle.std.proofs.lemmas.Result.{err_from_is_err_and}
use Rattle.std.specs.Arc.{arc_value}
use Rattle.lucy_calls.specs.declared.steps.Step.{Step}
use Rattle.lucy_judge.specs.declared.refusal.Refusal.{Refusal}
use Rattle.lucy_plan.specs.declared.parts.Call.{Call}
use Rattle.lucy_plan.specs.declared.parts.PlanParts.{PlanParts}
use Rattle.lucy_top.specs.Commands.{replay_script, asks_certificate, asks_work, asks_steps}
use Rattle.lucy_top.specs.Judging.{refusal_in}
use Rattle.lucy_top.specs.Script.{Script, ends}
use Rattle.lucy_top.specs.Verdicts.{replays, Says}
use Rattle.lucy_top.proofs.replaying.replay.Goals as goal

-- what is asked for once the work is read, and before
abbrev after_work : List ℕ → PlanParts → Option Refusal → List (List Call) → Script
after_work steps plan refusal work = asks_steps steps (length work) (λ (found : List Step). ends (replays plan refusal work found))

abbrev after_certificate : List ℕ → List ℕ → PlanParts → Option Refusal → Script
after_certificate work steps plan refusal = asks_work work plan (after_work steps plan refusal)

abbrev after_plan : List ℕ → List ℕ → List ℕ → PlanParts → Script
after_plan certificate work steps plan = asks_certificate certificate plan (after_certificate work steps plan)

pub returns-in_err-judged-clause-follows : goal.returns-in_err-judged-clause-follows
unfolding replay_script
returns-in_err-judged-clause-follows g c = λ told same.
    let plan = arc_value c.in_ok-plan.plan in
    let last = g.I.Inputs.journal c.load_certificate.new.inputs in
    let p = err_from_is_err_and c.from_residual-in_err-judged.result c.from_residual-in_err-judged.ensures.1 in
    rw (p.1, p.2) (c.in_ok-plan.ensures.loads told same (after_plan c.args.certificate_name.now c.args.work_name.now c.args.steps_name.now) last _
    (c.in_err-judged.ensures.loads told (same ∙ sym c.load_plan.ensures.told) (after_certificate c.args.work_name.now c.args.steps_name.now plan)))

pub returns-in_err-work-clause-follows : goal.returns-in_err-work-clause-follows
unfolding replay_script
returns-in_err-work-clause-follows g c = λ told same.
    let plan = arc_value c.in_ok-plan.plan in
    let last = g.I.Inputs.journal c.load_work.new.inputs in
    let refusal = refusal_in c.in_ok-judged.judged in
    let same_1 = same ∙ sym c.load_plan.ensures.told in
    let work_loads = rw c.deref.ensures at c.in_err-work.ensures.loads in
    let p = err_from_is_err_and c.from_residual-in_err-work.result c.from_residual-in_err-work.ensures.1 in
    rw (p.1, p.2) (c.in_ok-plan.ensures.loads told same (after_plan c.args.certificate_name.now c.args.work_name.now c.args.steps_name.now) last _
    (c.in_ok-judged.ensures.loads told same_1 (after_certificate c.args.work_name.now c.args.steps_name.now plan) last _
    (work_loads told (same_1 ∙ sym c.load_certificate.ensures.told) (after_work c.args.steps_name.now plan refusal))))

pub returns-in_err-steps-clause-follows : goal.returns-in_err-steps-clause-follows
unfolding replay_script
returns-in_err-steps-clause-follows g c = λ told same.
    let plan = arc_value c.in_ok-plan.plan in
    let last = g.I.Inputs.journal c.load_steps.new.inputs in
    let refusal = refusal_in c.in_ok-judged.judged in
    let work = c.in_ok-work.work.lists in
    let same_1 = same ∙ sym c.load_plan.ensures.told in
    let same_2 = same_1 ∙ sym c.load_certificate.ensures.told in
    let work_loads = rw c.deref.ensures at c.in_ok-work.ensures.loads in
    let steps_loads = rw c.len.ensures at c.in_err-steps.ensures.loads in
    let p = err_from_is_err_and c.from_residual-in_err-steps.result c.from_residual-in_err-steps.ensures.1 in
    rw (p.1, p.2) (c.in_ok-plan.ensures.loads told same (after_plan c.args.certificate_name.now c.args.work_name.now c.args.steps_name.now) last _
    (c.in_ok-judged.ensures.loads told same_1 (after_certificate c.args.work_name.now c.args.steps_name.now plan) last _
    (work_loads told same_2 (after_work c.args.steps_name.now plan refusal) last _
    (steps_loads told (same_2 ∙ sym c.load_work.ensures.told) (λ found. ends (replays plan refusal work found))))))

pub returns-clause-follows : goal.returns-clause-follows
unfolding replay_script
returns-clause-follows g c = λ told same.
    let plan = arc_value c.in_ok-plan.plan in
    let last = g.I.Inputs.journal c.load_steps.new.inputs in
    let refusal = refusal_in c.in_ok-judged.judged in
    let work = c.in_ok-work.work.lists in
    let same_1 = same ∙ sym c.load_plan.ensures.told in
    let same_2 = same_1 ∙ sym c.load_certificate.ensures.told in
    let work_loads = rw c.deref.ensures at c.in_ok-work.ensures.loads in
    let steps_loads = rw c.len.ensures at c.in_ok-steps.ensures.loads in
    let said_1 = subst (λ (p : PlanParts). IfOk c.say_judged_replay.result (λ s. Says (replays p refusal work c.deref-2.result.now) s.status s.text.items)) c.in_ok-judged.ensures.plan c.say_judged_replay.ensures in
    let said = subst (λ (found : List Step). IfOk c.say_judged_replay.result (λ s. Says (replays plan refusal work found) s.status s.text.items)) c.deref-2.ensures.value said_1 in
    c.in_ok-plan.ensures.loads told same (after_plan c.args.certificate_name.now c.args.work_name.now c.args.steps_name.now) last c.conclude.result
    (c.in_ok-judged.ensures.loads told same_1 (after_certificate c.args.work_name.now c.args.steps_name.now plan) last c.conclude.result
    (work_loads told same_2 (after_work c.args.steps_name.now plan refusal) last c.conclude.result
    (steps_loads told (same_2 ∙ sym c.load_work.ensures.told) (λ found. ends (replays plan refusal work found)) last c.conclude.result
    (c.conclude.ensures (replays plan refusal work c.in_ok-steps.steps.items) said told last))))
