use Rattle.lucy_model.proofs.EmptyConditions.{empty_or}
use Rattle.lucy_model.proofs.laws.empty_or_fails.Goals as goal

pub returns : goal.returns
returns c = empty_or
