use Rattle.lucy_calls.proofs.StepsBack.{steps_back}
use Rattle.lucy_calls.proofs.laws.steps_are_read_back.Goals as goal

pub returns : goal.returns
returns c = steps_back c.written_is_read.ensures
