use Rattle.lucy_atoms.proofs.Places.{stays}
use Rattle.lucy_atoms.proofs.laws.numbers_stay.Goals as goal

pub returns : goal.returns
returns c = stays
