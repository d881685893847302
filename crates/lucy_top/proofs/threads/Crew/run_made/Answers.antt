use Rattle.std.proofs.Common.{sym, ◌∙◌, List, ℕ}
use Rattle.std.proofs.lemmas.Result.{err_from_is_err_and}
use Rattle.std.specs.Arc.{arc_value}
use Rattle.lucy_plan.specs.declared.parts.Call.{Call}
use Rattle.lucy_plan.specs.declared.parts.PlanParts.{PlanParts}
use Rattle.lucy_top.specs.Commands.{run_made_script, asks_work}
use Rattle.lucy_top.specs.Outcomes.{Choice}
use Rattle.lucy_top.specs.Script.{Script, ends}
use Rattle.lucy_top.specs.Verdicts.{runs_if_sound}
use Rattle.lucy_top.proofs.threads.Crew.run_made.Goals as goal

-- what is asked for once the plan is read
abbrev after_plan : Choice → List ℕ → PlanParts → Script
after_plan choice work plan = asks_work work plan (λ (found : List (List Call)). ends (runs_if_sound choice plan found))

pub returns-in_err-work-clause-follows : goal.returns-in_err-work-clause-follows
unfolding run_made_script
returns-in_err-work-clause-follows g c = λ told choice same suits.
    let plan = arc_value c.in_ok-plan.plan in
    let last = g.I.Inputs.journal c.load_work.new.inputs in
    let work_loads = rw c.deref.ensures at c.in_err-work.ensures.loads in
    let p = err_from_is_err_and c.from_residual-in_err-work.result c.from_residual-in_err-work.ensures.1 in
    rw (p.1, p.2) (c.in_ok-plan.ensures.loads told same (after_plan choice c.args.work_name.now) last _
    (work_loads told (same ∙ sym c.load_plan.ensures.told) (λ found. ends (runs_if_sound choice plan found))))

pub returns-clause-follows : goal.returns-clause-follows
unfolding run_made_script
returns-clause-follows g c = λ told choice same suits.
    let plan = arc_value c.in_ok-plan.plan in
    let last = g.I.Inputs.journal c.load_work.new.inputs in
    let work = c.in_ok-work.work.lists in
    let work_loads = rw c.deref.ensures at c.in_ok-work.ensures.loads in
    c.in_ok-plan.ensures.loads told same (after_plan choice c.args.work_name.now) last c.conclude.result
    (work_loads told (same ∙ sym c.load_plan.ensures.told) (λ found. ends (runs_if_sound choice plan found)) last c.conclude.result
    (c.conclude.ensures (runs_if_sound choice plan work) (c.say_made.ensures.says choice suits) told last))
