use Rattle.lucy_lexer.proofs.SameKinds.{same_kinds}
use Rattle.lucy_lexer.proofs.laws.equal_kinds.Goals as goal

pub returns : goal.returns
returns c = same_kinds
