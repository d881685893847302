use Rattle.std.proofs.Common.{◌-◌, []}
use Rattle.lucy_make.specs.Drawing.{many}
use Rattle.lucy_make.specs.Plans.{gap, gaps}
use Rattle.lucy_make.proofs.Drawn.{many_more, many_end}
use Rattle.lucy_make.proofs.plans.draw_gaps.Goals as goal

pub loop-place-preserved : goal.loop-place-preserved
loop-place-preserved c =
    many_more gap (c.args.size - 1) c.loop-place._place c.loop-place.gaps.items c.push.new.self.items c.loop-place.chaos c.draw_gap.new.chaos c.draw_gap.result (many gap (c.args.size - 1) [] c.args.chaos.now)
    c.loop-place-test.true c.in_ok-push.ensures.items c.draw_gap.ensures c.loop-place.invariant

pub returns : goal.returns
unfolding gaps
returns c =
    many_end gap (c.args.size - 1) c.loop-place._place c.loop-place.gaps.items c.loop-place.chaos (many gap (c.args.size - 1) [] c.args.chaos.now) c.loop-place-test.false c.loop-place.invariant
