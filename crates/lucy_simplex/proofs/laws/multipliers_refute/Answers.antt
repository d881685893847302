use Rattle.lucy_simplex.proofs.Refuting.{refuted_has_no_point}
use Rattle.lucy_simplex.proofs.laws.multipliers_refute.Goals as goal

pub returns : goal.returns
returns c = refuted_has_no_point
