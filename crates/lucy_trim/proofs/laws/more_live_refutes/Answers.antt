use Rattle.lucy_trim.proofs.Keeping.{more_live_refutes}
use Rattle.lucy_trim.proofs.laws.more_live_refutes.Goals as goal

pub returns : goal.returns
returns c = more_live_refutes
