use Rattle.lucy_plan.proofs.SetLemmas.{set_leaf}
use Rattle.lucy_plan.proofs.laws.set_leaf_gets_its_term.Goals as goal

pub returns : goal.returns
returns c = set_leaf
