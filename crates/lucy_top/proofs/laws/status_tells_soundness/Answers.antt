use Rattle.lucy_top.proofs.VerdictLemmas.{status_tells}
use Rattle.lucy_top.proofs.laws.status_tells_soundness.Goals as goal

pub returns : goal.returns
returns c = status_tells
