use Rattle.lucy_replica.proofs.Adopting.{moved_exactly}
use Rattle.lucy_replica.proofs.laws.moved_exactly.Goals as goal

pub returns : goal.returns
returns c = moved_exactly
