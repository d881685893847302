use Rattle.lucy_normal.proofs.Meanings.{normal_means}
use Rattle.lucy_normal.proofs.laws.normal_means.Goals as goal

pub returns : goal.returns
returns c = normal_means
