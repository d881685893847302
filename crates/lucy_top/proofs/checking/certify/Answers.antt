use Rattle.std.specs.Arc.{arc_value}
use Rattle.lucy_top.specs.Commands.{certify_script}
use Rattle.lucy_top.specs.Script.{ends}
use Rattle.lucy_top.specs.Verdicts.{certifies}
use Rattle.lucy_top.proofs.checking.certify.Goals as goal

pub returns-clause-follows : goal.returns-clause-follows
unfolding certify_script
returns-clause-follows g c = λ told same.
    let plan = arc_value c.in_ok-plan.plan in
    let last = g.I.Inputs.journal c.load_plan.new.inputs in
    let said = rw c.deref.ensures at c.say_certificate.ensures in
    c.in_ok-plan.ensures.loads told same (λ p. ends (certifies p)) last c.conclude.result (c.conclude.ensures (certifies plan) said told last)
