use Rattle.lucy_closure.proofs.Segments.{uncovered_more, over_more}
use Rattle.lucy_closure.proofs.formulas.add_uncovered.Goals as goal

pub loop-segment-preserved : goal.loop-segment-preserved
loop-segment-preserved c = (
  uncovered_more c.args.segments.now c.loop-segment.segment-index c.segment-item.result c.in_ok-part.part _ c.loop-segment.parts c.push.new.self
      c.loop-segment-test.true c.segment-item.is (rw c.as_slice.ensures at c.in_ok-part.ensures) c.loop-segment.invariant.0 c.in_ok-push.ensures.ok,
  over_more c.args.leaves c.args.segments.now c.loop-segment.segment-index c.segment-item.result c.loop-segment-test.true c.segment-item.is c.loop-segment.invariant.1,
)
