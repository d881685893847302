use Rattle.std.proofs.Common.{sym, arith}
use Rattle.lucy_clauses.proofs.NormalTests.{ascends_first}
use Rattle.lucy_clauses.proofs.normality.ascend.Goals as goal

pub loop-part-init : goal.loop-part-init
loop-part-init c = (sym (ascends_first c.args.parts.now), omega arith)
