use Rattle.lucy_core.proofs.Legality.{run_outcome_is_legal}
use Rattle.lucy_core.proofs.laws.run_outcome_is_legal.Goals as goal

pub returns : goal.returns
returns c = run_outcome_is_legal c.opening_is_safe.ensures c.runs_keep_safe.ensures
