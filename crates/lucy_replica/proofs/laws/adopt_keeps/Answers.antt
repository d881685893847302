use Rattle.lucy_replica.proofs.Adopting.{adopt_keeps}
use Rattle.lucy_replica.proofs.laws.adopt_keeps.Goals as goal

pub returns : goal.returns
returns c = adopt_keeps
