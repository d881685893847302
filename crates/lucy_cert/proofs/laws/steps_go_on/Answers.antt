use Rattle.lucy_cert.proofs.RefutingLemmas.{steps_go_on}
use Rattle.lucy_cert.proofs.laws.steps_go_on.Goals as goal

pub returns : goal.returns
returns c = steps_go_on
