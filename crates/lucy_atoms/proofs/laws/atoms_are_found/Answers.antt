use Rattle.lucy_atoms.proofs.Places.{found}
use Rattle.lucy_atoms.proofs.laws.atoms_are_found.Goals as goal

pub returns : goal.returns
returns c = found
