use Rattle.lucy_core.proofs.Reading.{frozen_held}
use Rattle.lucy_core.proofs.laws.frozen_is_held.Goals as goal

pub returns : goal.returns
returns c = frozen_held
