use Rattle.lucy_model.proofs.MergingLemmas.{merged-idem}
use Rattle.lucy_model.proofs.laws.merge_is_idempotent.Goals as goal

pub returns : goal.returns
returns c = merged-idem
