use Rattle.lucy_model.proofs.MergingLemmas.{merged-comm}
use Rattle.lucy_model.proofs.laws.merge_commutes.Goals as goal

pub returns : goal.returns
returns c = merged-comm
