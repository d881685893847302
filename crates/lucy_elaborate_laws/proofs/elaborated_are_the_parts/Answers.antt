use Rattle.lucy_elaborate_laws.proofs.Plans.{elaborated_is}
use Rattle.lucy_elaborate_laws.proofs.elaborated_are_the_parts.Goals as goal

pub returns : goal.returns
returns c = λ tree. elaborated_is tree
