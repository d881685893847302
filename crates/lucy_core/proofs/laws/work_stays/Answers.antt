use Rattle.lucy_core.proofs.RunLemmas.{work_stays}
use Rattle.lucy_core.proofs.laws.work_stays.Goals as goal

pub returns : goal.returns
returns c = work_stays
