use Rattle.std.specs.Arc.{arc_value}
use Rattle.lucy_calls.specs.Texts.{work_text}
use Rattle.lucy_make.specs.Work.{made_work}
use Rattle.lucy_names.specs.Plans.{txn_names}
use Rattle.lucy_plan.specs.declared.parts.PlanParts.{PlanParts}
use Rattle.lucy_top.specs.Commands.{make_work_script}
use Rattle.lucy_top.specs.Script.{ends}
use Rattle.lucy_top.specs.Verdicts.{exactly, answered, Verdict}
use Rattle.lucy_top.proofs.making.make_work.Goals as goal

pub returns-clause-follows : goal.returns-clause-follows
unfolding make_work_script
returns-clause-follows g c = λ told same.
    let plan = arc_value c.in_ok-plan.plan in
    let last = g.I.Inputs.journal c.load_plan.new.inputs in
    let said = rw c.deref.ensures at c.say_work.ensures in
    let ending : PlanParts → Verdict = λ p. exactly answered (work_text (txn_names p) (made_work p c.args.seed c.args.replicas c.args.calls)) in
    c.in_ok-plan.ensures.loads told same (λ p. ends (ending p)) last c.conclude.result (c.conclude.ensures (ending plan) said told last)
