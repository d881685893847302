use Rattle.lucy_fraction.proofs.Ratios.{reduced_unique}
use Rattle.lucy_fraction.proofs.laws.reduced_is_unique.Goals as goal

pub returns : goal.returns
returns c = reduced_unique
