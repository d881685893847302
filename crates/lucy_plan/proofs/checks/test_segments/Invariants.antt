use Rattle.std.proofs.Common.{◌≡◌, drop}
use Rattle.std.specs.Prelude.{map}
use Rattle.lucy_plan.specs.Faults.{first_of, segment_fault}
use Rattle.lucy_plan.proofs.checks.test_segments.Given as goal

abbrev pub invariant-loop-segment : goal.invariant-loop-segment
invariant-loop-segment l = first_of (map (segment_fault l.rule l.leaves l.txns) l.segments) ≡ first_of (map (segment_fault l.rule l.leaves l.txns) (drop l.segment-index l.segments))
