use Rattle.lucy_plan.proofs.SetLemmas.{call_keeps_length}
use Rattle.lucy_plan.proofs.laws.call_keeps_length.Goals as goal

pub returns : goal.returns
returns c = call_keeps_length
