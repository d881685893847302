use Rattle.lucy_model.proofs.MergingLemmas.{merged-assoc}
use Rattle.lucy_model.proofs.laws.merge_associates.Goals as goal

pub returns : goal.returns
returns c = merged-assoc
