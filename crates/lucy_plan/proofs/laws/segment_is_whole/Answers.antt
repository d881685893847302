use Rattle.lucy_plan.proofs.SegmentLemmas.{segment_whole}
use Rattle.lucy_plan.proofs.laws.segment_is_whole.Goals as goal

pub returns : goal.returns
returns c = segment_whole
