use Rattle.std.proofs.Common.{sym, ◌∙◌, List, ℕ, length}
use Rattle.std.proofs.lemmas.Result.{err_from_is_err_and}
use Rattle.std.specs.Arc.{arc_value}
use Rattle.lucy_calls.specs.Texts.{steps_text}
use Rattle.lucy_make.specs.Steps.{made_steps}
use Rattle.lucy_plan.specs.declared.parts.Call.{Call}
use Rattle.lucy_plan.specs.declared.parts.PlanParts.{PlanParts}
use Rattle.lucy_top.specs.Commands.{make_steps_script, asks_work}
use Rattle.lucy_top.specs.Script.{Script, ends}
use Rattle.lucy_top.specs.Verdicts.{exactly, answered, Verdict}
use Rattle.lucy_top.proofs.making.make_steps.Goals as goal

abbrev verdict_on : ℕ → ℕ → List (List Call) → Verdict
verdict_on seed rounds work = exactly answered (steps_text (made_steps (length work) seed rounds))

-- what is asked for once the plan is read
abbrev after_plan : List ℕ → ℕ → ℕ → PlanParts → Script
after_plan work seed rounds plan = asks_work work plan (λ (lists : List (List Call)). ends (verdict_on seed rounds lists))

pub returns-in_err-work-clause-follows : goal.returns-in_err-work-clause-follows
unfolding make_steps_script
returns-in_err-work-clause-follows g c = λ told same.
    let plan = arc_value c.in_ok-plan.plan in
    let last = g.I.Inputs.journal c.load_work.new.inputs in
    let work_loads = rw c.deref.ensures at c.in_err-work.ensures.loads in
    let p = err_from_is_err_and c.from_residual-in_err-work.result c.from_residual-in_err-work.ensures.1 in
    rw (p.1, p.2) (c.in_ok-plan.ensures.loads told same (after_plan c.args.work_name.now c.args.seed c.args.rounds) last _
    (work_loads told (same ∙ sym c.load_plan.ensures.told) (λ lists. ends (verdict_on c.args.seed c.args.rounds lists))))

pub returns-clause-follows : goal.returns-clause-follows
unfolding make_steps_script
returns-clause-follows g c = λ told same.
    let plan = arc_value c.in_ok-plan.plan in
    let last = g.I.Inputs.journal c.load_work.new.inputs in
    let work = c.in_ok-work.work.lists in
    let work_loads = rw c.deref.ensures at c.in_ok-work.ensures.loads in
    let said = rw c.len.ensures at c.say_steps.ensures in
    c.in_ok-plan.ensures.loads told same (after_plan c.args.work_name.now c.args.seed c.args.rounds) last c.conclude.result
    (work_loads told (same ∙ sym c.load_plan.ensures.told) (λ lists. ends (verdict_on c.args.seed c.args.rounds lists)) last c.conclude.result
    (c.conclude.ensures (verdict_on c.args.seed c.args.rounds work) said told last))
