use Rattle.std.specs.Arc.{arc_value}
use Rattle.lucy_top.proofs.DrillLemmas.{steps_of_opening}
use Rattle.lucy_top.proofs.drilling.world_of.Goals as goal

pub run-requires : goal.run-requires
run-requires c = steps_of_opening (arc_value c.args.checked) c.args.work.now.lists c.args.steps.now c.in_ok-world.world c.in_ok-world.ensures.opening c.requires.steps
