use Rattle.std.specs.Arc.{arc_value}
use Rattle.lucy_top.specs.Commands.{drill_script}
use Rattle.lucy_top.specs.Script.{ends}
use Rattle.lucy_top.specs.Verdicts.{drills}
use Rattle.lucy_top.proofs.drilling.drill.Goals as goal

pub returns : goal.returns
unfolding drill_script
returns c = λ told old.
    let plan = arc_value c.in_ok-plan.plan in
    let takes = rw (c.deref.ensures.value, c.in_ok-text.ensures) at c.in_ok-plan.ensures.takes in
    takes (λ p. ends (drills p c.args.seed c.args.size)) told old old c.conclude.result
    (c.conclude.ensures (drills plan c.args.seed c.args.size) c.say_drill.ensures told old)
