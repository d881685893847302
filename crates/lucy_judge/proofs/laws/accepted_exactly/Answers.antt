use Rattle.lucy_judge.proofs.Sound.{exactly_accepted}
use Rattle.lucy_judge.proofs.laws.accepted_exactly.Goals as goal

pub returns : goal.returns
returns c = exactly_accepted c.refutes_exactly.ensures
