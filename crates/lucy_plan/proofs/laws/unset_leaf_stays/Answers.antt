use Rattle.lucy_plan.proofs.CallLemmas.{unset_leaf}
use Rattle.lucy_plan.proofs.laws.unset_leaf_stays.Goals as goal

pub returns : goal.returns
returns c = unset_leaf
