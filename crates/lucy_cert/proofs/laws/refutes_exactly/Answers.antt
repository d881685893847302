use Rattle.lucy_cert.proofs.RefutingLemmas.{refutes_exactly}
use Rattle.lucy_cert.proofs.laws.refutes_exactly.Goals as goal

pub returns : goal.returns
returns c = refutes_exactly
