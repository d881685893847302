use Rattle.lucy_top.proofs.RunningLemmas.{lines_join_so}
use Rattle.lucy_top.proofs.laws.lines_join.Goals as goal

pub returns : goal.returns
returns c = lines_join_so
