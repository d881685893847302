use Rattle.std.proofs.Common.{sym, subst}
use Rattle.lucy_cluster.specs.Causes.{IsCause}
use Rattle.lucy_top.proofs.threads.difference_in.Goals as goal

pub returns-in-Apart : goal.returns-in-Apart
returns-in-Apart c = λ replicas cause same. subst (IsCause replicas) c.in-Apart.is cause (sym same)

pub returns-in-Seats : goal.returns-in-Seats
returns-in-Seats c = λ replicas cause. (subst (IsCause replicas) c.in-Seats.is cause).1
