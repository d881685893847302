use Rattle.std.proofs.Common.{sym}
use Rattle.lucy_closure.proofs.Segments.{segment_over}
use Rattle.lucy_closure.proofs.formulas.of_closure.Goals as goal

pub of_segment-requires-clause-segment : goal.of_segment-requires-clause-segment
of_segment-requires-clause-segment c = segment_over c.args.plan.now c.args.segment c.in-Some.segment.now c.requires (sym c.in-Some.ensures.value)
