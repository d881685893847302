use Rattle.lucy_plan.proofs.SegmentLemmas.{no_first}
use Rattle.lucy_plan.proofs.laws.no_first_segment_is_none.Goals as goal

pub returns : goal.returns
returns c = no_first
