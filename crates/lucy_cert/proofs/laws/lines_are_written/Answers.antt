use Rattle.lucy_cert.proofs.SaidLemmas.{entry_said}
use Rattle.lucy_cert.proofs.laws.lines_are_written.Goals as goal

pub returns : goal.returns
returns c = entry_said c.read_is_written.ensures
