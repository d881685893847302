use Rattle.lucy_syntax.proofs.Whole.{spelled}
use Rattle.lucy_syntax.proofs.laws.read_is_spelled.Goals as goal

pub returns : goal.returns
returns c = spelled c.equal_kinds.ensures
