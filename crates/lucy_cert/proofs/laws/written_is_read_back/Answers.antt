use Rattle.lucy_cert.proofs.BackLemmas.{written_is_read_back}
use Rattle.lucy_cert.proofs.laws.written_is_read_back.Goals as goal

pub returns : goal.returns
returns c = written_is_read_back c.written_is_read.ensures
