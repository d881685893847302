use Rattle.lucy_simplex.proofs.Pivots.{pivot_keeps}
use Rattle.lucy_simplex.proofs.laws.pivot_keeps_solutions.Goals as goal

pub returns : goal.returns
returns c = pivot_keeps
