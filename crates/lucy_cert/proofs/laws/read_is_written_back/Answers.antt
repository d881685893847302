use Rattle.lucy_cert.proofs.ReadLemmas.{read_is_written_back}
use Rattle.lucy_cert.proofs.laws.read_is_written_back.Goals as goal

pub returns : goal.returns
returns c = read_is_written_back c.read_is_written.ensures
