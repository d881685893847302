use Rattle.lucy_simplex.proofs.OneRun.{runs_are_one_lem}
use Rattle.lucy_simplex.proofs.laws.runs_are_one.Goals as goal

pub returns : goal.returns
returns c = runs_are_one_lem
