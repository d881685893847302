use Rattle.lucy_calls.proofs.StepsKept.{steps_named}
use Rattle.lucy_calls.proofs.laws.steps_name_replicas.Goals as goal

pub returns : goal.returns
returns c = steps_named
