use Rattle.lucy_make.specs.Plans.{made_plan}
use Rattle.lucy_top.specs.Commands.{make_plan_script}
use Rattle.lucy_top.specs.Verdicts.{exactly, answered}
use Rattle.lucy_top.proofs.making.make_plan.Goals as goal

pub returns : goal.returns
unfolding make_plan_script
returns c = λ told old.
    let text = made_plan c.args.seed c.args.size in
    c.conclude.ensures (exactly answered text) (c.say.ensures text c.make_plan.ensures) told old
