use Rattle.std.proofs.Common.{[], ◌∙◌}
use Rattle.lucy_make.specs.Drawing.{many}
use Rattle.lucy_make.specs.Work.{call}
use Rattle.lucy_make.proofs.Drawn.{many_more, many_end}
use Rattle.lucy_make.proofs.DrawnValues.{some_calls}
use Rattle.lucy_make.proofs.works.draw_calls.Goals as goal

pub loop-place-preserved : goal.loop-place-preserved
loop-place-preserved c =
    many_more (call c.args.txns.now) c.args.count c.loop-place._place c.loop-place.calls c.push.new.self c.loop-place.chaos c.draw_call.new.chaos c.in_ok-call.call (many (call c.args.txns.now) c.args.count [] c.args.chaos.now)
    c.loop-place-test.true c.in_ok-push.ensures.ok c.in_ok-call.ensures c.loop-place.invariant

pub returns : goal.returns
returns c =
    many_end (call c.args.txns.now) c.args.count c.loop-place._place c.loop-place.calls c.loop-place.chaos (many (call c.args.txns.now) c.args.count [] c.args.chaos.now) c.loop-place-test.false c.loop-place.invariant
    ∙ some_calls c.args.txns.now c.args.count c.args.chaos.now c.requires.some
