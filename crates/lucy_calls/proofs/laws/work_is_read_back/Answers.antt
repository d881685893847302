use Rattle.lucy_calls.proofs.WorkBack.{work_back}
use Rattle.lucy_calls.proofs.laws.work_is_read_back.Goals as goal

pub returns : goal.returns
returns c = work_back c.written_is_read.ensures c.names_are_found.ensures
