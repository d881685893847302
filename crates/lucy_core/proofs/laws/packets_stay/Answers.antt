use Rattle.lucy_core.proofs.RunLemmas.{packets_stay}
use Rattle.lucy_core.proofs.laws.packets_stay.Goals as goal

pub returns : goal.returns
returns c = packets_stay
