use Rattle.lucy_core.proofs.SubmitLemmas.{submit_done}
use Rattle.lucy_core.proofs.laws.submit_is_done_exactly.Goals as goal

pub returns : goal.returns
returns c = submit_done c.done_exactly.ensures
