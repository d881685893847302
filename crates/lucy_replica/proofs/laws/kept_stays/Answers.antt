use Rattle.lucy_replica.proofs.Adopting.{kept_stays}
use Rattle.lucy_replica.proofs.laws.kept_stays.Goals as goal

pub returns : goal.returns
returns c = kept_stays
