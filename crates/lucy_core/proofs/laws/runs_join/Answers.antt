use Rattle.lucy_core.proofs.RunLemmas.{runs_join}
use Rattle.lucy_core.proofs.laws.runs_join.Goals as goal

pub returns : goal.returns
returns c = runs_join
