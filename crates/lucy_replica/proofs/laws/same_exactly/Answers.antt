use Rattle.lucy_replica.proofs.Sameness.{same_exactly}
use Rattle.lucy_replica.proofs.laws.same_exactly.Goals as goal

pub returns : goal.returns
returns c = same_exactly
