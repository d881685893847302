use Rattle.lucy_syntax.proofs.Whole.{within}
use Rattle.lucy_syntax.proofs.laws.read_is_within.Goals as goal

pub returns : goal.returns
returns c = within c.equal_kinds.ensures
