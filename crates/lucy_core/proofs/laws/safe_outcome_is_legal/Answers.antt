use Rattle.lucy_core.proofs.Legality.{safe_outcome_is_legal}
use Rattle.lucy_core.proofs.laws.safe_outcome_is_legal.Goals as goal

pub returns : goal.returns
returns c = safe_outcome_is_legal
