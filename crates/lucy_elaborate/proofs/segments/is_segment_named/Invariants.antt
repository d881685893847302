use Rattle.std.proofs.Common.{◌≡◌, drop}
use Rattle.lucy_elaborate.specs.Segments.{is_segment_named}
use Rattle.lucy_elaborate.proofs.segments.is_segment_named.Given as goal

abbrev pub invariant-loop-segment : goal.invariant-loop-segment
invariant-loop-segment l = is_segment_named l.name l.segments ≡ is_segment_named l.name (drop l.segment-index l.segments)
