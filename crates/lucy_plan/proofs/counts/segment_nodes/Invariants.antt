use Rattle.std.proofs.Common.{◌≡◌, min, take}
use Rattle.std.specs.Prelude.{sum_by}
use Rattle.lucy_plan.specs.Counts.{nodes_of, most_told}
use Rattle.lucy_plan.proofs.counts.segment_nodes.Given as goal

abbrev pub invariant-loop-segment : goal.invariant-loop-segment
invariant-loop-segment l = l.count ≡ min (sum_by (λ segment. nodes_of segment.condition) (take l.segment-index l.segments)) most_told
