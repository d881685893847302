use Rattle.lucy_model.proofs.EmptyConditions.{empty_and}
use Rattle.lucy_model.proofs.laws.empty_and_holds.Goals as goal

pub returns : goal.returns
returns c = empty_and
