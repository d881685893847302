use Rattle.lucy_plan.proofs.SegmentLemmas.{first_is_first}
use Rattle.lucy_plan.proofs.laws.first_segment_is_first.Goals as goal

pub returns : goal.returns
returns c = first_is_first
