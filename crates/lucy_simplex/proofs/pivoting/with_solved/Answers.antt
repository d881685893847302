use Rattle.lucy_simplex.proofs.Sweeping.{read_exchanged}
use Rattle.lucy_simplex.proofs.pivoting.with_solved.Goals as goal

pub returns-in-Ok-clause-reads : goal.returns-in-Ok-clause-reads
returns-in-Ok-clause-reads c = λ qs s h k. read_exchanged s c.args.entering c.args.place qs c.in-Ok.all.items c.args.by (c.in-Ok.ensures.reads qs s h k) k
