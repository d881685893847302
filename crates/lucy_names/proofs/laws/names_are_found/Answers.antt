use Rattle.lucy_names.proofs.Places.{found}
use Rattle.lucy_names.proofs.laws.names_are_found.Goals as goal

pub returns : goal.returns
returns c = found
