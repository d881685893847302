use Rattle.std.proofs.Common.{length, sym}
use Rattle.lucy_plan.specs.Plans.{is_segment}
use Rattle.lucy_plan.proofs.Found.{found_passes}
use Rattle.lucy_plan.proofs.segments.in_segment.Goals as goal

pub is_in-requires-clause-segment : goal.is_in-requires-clause-segment
is_in-requires-clause-segment c =
    let plan = c.args.plan.now in
    let kept = rw c.parts.ensures.parts at c.parts.ensures.kept in
    let found = rw c.parts.ensures.parts at c.in-Some.ensures.value in
    found_passes (is_segment (length plan.object) (length plan.txns)) plan.segments c.args.segment c.in-Some.segment.now (sym found) kept.segments
