use Rattle.lucy_normal.proofs.FlatLists.{flat_means}
use Rattle.lucy_normal.proofs.laws.flat_means.Goals as goal

pub returns : goal.returns
returns c = flat_means
