use Rattle.std.proofs.Common.{◌≡◌, drop}
use Rattle.lucy_gather.specs.Steps.{each}
use Rattle.lucy_elaborate.specs.Segments.{segment_in}
use Rattle.lucy_elaborate.proofs.segments.segments_in.Given as goal

abbrev pub invariant-loop-segment : goal.invariant-loop-segment
invariant-loop-segment l = each (segment_in l.scope) (drop l.segment-index l.segments) l.found ≡ each (segment_in l.scope) l.segments l.fn.found
