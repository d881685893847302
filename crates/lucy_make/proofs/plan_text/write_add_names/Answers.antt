use Rattle.std.proofs.Common.{◌++◌}
use Rattle.lucy_make.specs.PlanTexts.{add_name, each_place}
use Rattle.lucy_make.proofs.Drawn.{place_more}
use Rattle.lucy_make.proofs.plan_text.write_add_names.Goals as goal

pub loop-place-preserved : goal.loop-place-preserved
loop-place-preserved c =
    place_more add_name c.args.heights.now c.loop-place.place c.loop-place.out.items c.write_add_name.new.out.items (c.args.out.now.items ++ each_place add_name 0 c.args.heights.now)
    c.loop-place-test.true c.in_ok-write_add_name.ensures c.loop-place.invariant
