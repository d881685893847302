use Rattle.lucy_fraction.proofs.Ratios.{quotient_times}
use Rattle.lucy_fraction.proofs.laws.quotient_times_divisor.Goals as goal

pub returns : goal.returns
returns c = quotient_times
