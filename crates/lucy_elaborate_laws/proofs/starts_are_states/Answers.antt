use Rattle.lucy_elaborate_laws.proofs.Starts.{starts_allowed}
use Rattle.lucy_elaborate_laws.proofs.starts_are_states.Goals as goal

pub returns : goal.returns
returns c = λ fields settings scope start made e. starts_allowed fields settings scope start made e
