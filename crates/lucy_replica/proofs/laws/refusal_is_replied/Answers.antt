use Rattle.lucy_replica.proofs.Adopting.{refusal_is_replied}
use Rattle.lucy_replica.proofs.laws.refusal_is_replied.Goals as goal

pub returns : goal.returns
returns c = refusal_is_replied
