use Rattle.lucy_core.proofs.Starting.{opening_safe}
use Rattle.lucy_core.proofs.laws.opening_is_safe.Goals as goal

pub returns : goal.returns
returns c = opening_safe c.newcomer_is_settled.ensures c.settled_is_whole.ensures
