use Rattle.lucy_core.proofs.Saying.{frozen_exactly}
use Rattle.lucy_core.proofs.laws.freeze_is_frozen_exactly.Goals as goal

pub returns : goal.returns
returns c = frozen_exactly
