use Rattle.lucy_core.proofs.SubmitLemmas.{submit_broken}
use Rattle.lucy_core.proofs.laws.submit_is_broken_exactly.Goals as goal

pub returns : goal.returns
returns c = submit_broken c.broken_exactly.ensures
