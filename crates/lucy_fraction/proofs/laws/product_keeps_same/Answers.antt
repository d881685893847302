use Rattle.lucy_fraction.proofs.Ratios.{product_same}
use Rattle.lucy_fraction.proofs.laws.product_keeps_same.Goals as goal

pub returns : goal.returns
returns c = product_same
