use Rattle.std.proofs.Common.{◌≡◌, min, take, length}
use Rattle.std.specs.Prelude.{sum_by}
use Rattle.lucy_plan.specs.Counts.{most_told}
use Rattle.lucy_plan.proofs.counts.points.Given as goal

abbrev pub invariant-loop-segment : goal.invariant-loop-segment
invariant-loop-segment l = l.count ≡ min (sum_by (λ segment. length segment.excepts) (take l.segment-index l.segments)) most_told
