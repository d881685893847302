use Rattle.lucy_normal.proofs.SmallAtoms.{normal_is_small}
use Rattle.lucy_normal.proofs.laws.normal_is_small.Goals as goal

pub returns : goal.returns
returns c = normal_is_small
