use Rattle.lucy_syntax.proofs.Whole.{again}
use Rattle.lucy_syntax.proofs.laws.spelled_is_read.Goals as goal

pub returns : goal.returns
returns c = again
