use Rattle.lucy_trim.proofs.Keeping.{trimmed_refutes}
use Rattle.lucy_trim.proofs.laws.trimmed_refutes.Goals as goal

pub returns : goal.returns
returns c = trimmed_refutes
