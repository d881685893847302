use Rattle.lucy_replica.proofs.Settling.{submit_keeps}
use Rattle.lucy_replica.proofs.laws.submit_keeps.Goals as goal

pub returns : goal.returns
returns c = submit_keeps
