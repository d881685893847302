use Rattle.lucy_fraction.proofs.Ratios.{sum_same}
use Rattle.lucy_fraction.proofs.laws.sum_keeps_same.Goals as goal

pub returns : goal.returns
returns c = sum_same
