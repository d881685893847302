use Rattle.lucy_core.proofs.AloneLemmas.{alone_is_legal}
use Rattle.lucy_core.proofs.laws.alone_is_legal.Goals as goal

pub returns : goal.returns
returns c = alone_is_legal c.run_outcome_is_legal.ensures
