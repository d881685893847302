use Rattle.lucy_core.proofs.Starting.{every_run_safe}
use Rattle.lucy_core.proofs.laws.every_run_is_safe.Goals as goal

pub returns : goal.returns
returns c = every_run_safe c.opening_is_safe.ensures c.runs_keep_safe.ensures
