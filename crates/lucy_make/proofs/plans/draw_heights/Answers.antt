use Rattle.std.proofs.Common.{[]}
use Rattle.lucy_make.specs.Drawing.{many}
use Rattle.lucy_make.specs.Plans.{height, heights}
use Rattle.lucy_make.proofs.Drawn.{many_more, many_end}
use Rattle.lucy_make.proofs.plans.draw_heights.Goals as goal

pub loop-place-preserved : goal.loop-place-preserved
loop-place-preserved c =
    many_more height c.args.size c.loop-place._place c.loop-place.heights.items c.push.new.self.items c.loop-place.chaos c.draw_height.new.chaos c.draw_height.result (many height c.args.size [] c.args.chaos.now)
    c.loop-place-test.true c.in_ok-push.ensures.items c.draw_height.ensures c.loop-place.invariant

pub returns : goal.returns
unfolding heights
returns c =
    many_end height c.args.size c.loop-place._place c.loop-place.heights.items c.loop-place.chaos (many height c.args.size [] c.args.chaos.now) c.loop-place-test.false c.loop-place.invariant
