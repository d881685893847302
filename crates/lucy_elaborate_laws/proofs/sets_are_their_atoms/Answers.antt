use Rattle.lucy_elaborate_laws.proofs.Sets.{sets_theirs}
use Rattle.lucy_elaborate_laws.proofs.sets_are_their_atoms.Goals as goal

pub returns : goal.returns
returns c = λ fields scope e. sets_theirs fields scope e
