use Rattle.lucy_elaborate_laws.proofs.Segments.{listed_below}
use Rattle.lucy_elaborate_laws.proofs.listed_are_there.Goals as goal

pub returns : goal.returns
returns c = λ txns names places e. listed_below txns names places e
