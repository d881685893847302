use Rattle.lucy_core.proofs.RunLemmas.{records_stay}
use Rattle.lucy_core.proofs.laws.records_stay.Goals as goal

pub returns : goal.returns
returns c = records_stay
