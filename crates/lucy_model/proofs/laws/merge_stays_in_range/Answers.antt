use Rattle.lucy_model.proofs.MergingLemmas.{merged_allowed}
use Rattle.lucy_model.proofs.laws.merge_stays_in_range.Goals as goal

pub returns : goal.returns
returns c = merged_allowed
