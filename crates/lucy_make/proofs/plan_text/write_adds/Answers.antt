use Rattle.std.proofs.Common.{◌++◌}
use Rattle.lucy_make.specs.PlanTexts.{add_text, each_place}
use Rattle.lucy_make.proofs.Drawn.{place_more}
use Rattle.lucy_make.proofs.plan_text.write_adds.Goals as goal

pub loop-place-preserved : goal.loop-place-preserved
loop-place-preserved c =
    place_more add_text c.args.heights.now c.loop-place.place c.loop-place.out.items c.write_add.new.out.items (c.args.out.now.items ++ each_place add_text 0 c.args.heights.now)
    c.loop-place-test.true c.in_ok-write_add.ensures c.loop-place.invariant
