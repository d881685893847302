use Rattle.lucy_core.proofs.Saying.{moved_exactly}
use Rattle.lucy_core.proofs.laws.thaw_is_moved_exactly.Goals as goal

pub returns : goal.returns
returns c = moved_exactly
