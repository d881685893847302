use Rattle.lucy_top.proofs.VerdictLemmas.{certified_verified}
use Rattle.lucy_top.proofs.laws.certified_is_verified.Goals as goal

pub returns : goal.returns
returns c = certified_verified c.written_is_read_back.ensures
