use Rattle.std.proofs.Common.{sym, ◌∙◌, List, ℕ, length}
use Rattle.std.proofs.lemmas.Result.{err_from_is_err_and}
use Rattle.std.specs.Arc.{arc_value}
use Rattle.lucy_calls.specs.declared.steps.Step.{Step}
use Rattle.lucy_plan.specs.declared.parts.Call.{Call}
use Rattle.lucy_plan.specs.declared.parts.PlanParts.{PlanParts}
use Rattle.lucy_top.specs.Commands.{replay_made_script, asks_work, asks_steps}
use Rattle.lucy_top.specs.Script.{Script, ends}
use Rattle.lucy_top.specs.Verdicts.{replays_if_sound}
use Rattle.lucy_top.proofs.replaying.replay_made.Goals as goal

-- what is asked for once the work is read, and before
abbrev after_work : List ℕ → PlanParts → List (List Call) → Script
after_work steps plan work = asks_steps steps (length work) (λ (found : List Step). ends (replays_if_sound plan work found))

abbrev after_plan : List ℕ → List ℕ → PlanParts → Script
after_plan work steps plan = asks_work work plan (after_work steps plan)

pub returns-in_err-work-clause-follows : goal.returns-in_err-work-clause-follows
unfolding replay_made_script
returns-in_err-work-clause-follows g c = λ told same.
    let plan = arc_value c.in_ok-plan.plan in
    let last = g.I.Inputs.journal c.load_work.new.inputs in
    let work_loads = rw c.deref.ensures at c.in_err-work.ensures.loads in
    let p = err_from_is_err_and c.from_residual-in_err-work.result c.from_residual-in_err-work.ensures.1 in
    rw (p.1, p.2) (c.in_ok-plan.ensures.loads told same (after_plan c.args.work_name.now c.args.steps_name.now) last _
    (work_loads told (same ∙ sym c.load_plan.ensures.told) (after_work c.args.steps_name.now plan)))

pub returns-in_err-steps-clause-follows : goal.returns-in_err-steps-clause-follows
unfolding replay_made_script
returns-in_err-steps-clause-follows g c = λ told same.
    let plan = arc_value c.in_ok-plan.plan in
    let last = g.I.Inputs.journal c.load_steps.new.inputs in
    let work = c.in_ok-work.work.lists in
    let same_1 = same ∙ sym c.load_plan.ensures.told in
    let work_loads = rw c.deref.ensures at c.in_ok-work.ensures.loads in
    let steps_loads = rw c.len.ensures at c.in_err-steps.ensures.loads in
    let p = err_from_is_err_and c.from_residual-in_err-steps.result c.from_residual-in_err-steps.ensures.1 in
    rw (p.1, p.2) (c.in_ok-plan.ensures.loads told same (after_plan c.args.work_name.now c.args.steps_name.now) last _
    (work_loads told same_1 (after_work c.args.steps_name.now plan) last _
    (steps_loads told (same_1 ∙ sym c.load_work.ensures.told) (λ found. ends (replays_if_sound plan work found)))))

pub returns-clause-follows : goal.returns-clause-follows
unfolding replay_made_script
returns-clause-follows g c = λ told same.
    let plan = arc_value c.in_ok-plan.plan in
    let last = g.I.Inputs.journal c.load_steps.new.inputs in
    let work = c.in_ok-work.work.lists in
    let same_1 = same ∙ sym c.load_plan.ensures.told in
    let work_loads = rw c.deref.ensures at c.in_ok-work.ensures.loads in
    let steps_loads = rw c.len.ensures at c.in_ok-steps.ensures.loads in
    let said = rw c.deref-2.ensures.value at c.say_made_replay.ensures in
    c.in_ok-plan.ensures.loads told same (after_plan c.args.work_name.now c.args.steps_name.now) last c.conclude.result
    (work_loads told same_1 (after_work c.args.steps_name.now plan) last c.conclude.result
    (steps_loads told (same_1 ∙ sym c.load_work.ensures.told) (λ found. ends (replays_if_sound plan work found)) last c.conclude.result
    (c.conclude.ensures (replays_if_sound plan work c.in_ok-steps.steps.items) said told last)))
