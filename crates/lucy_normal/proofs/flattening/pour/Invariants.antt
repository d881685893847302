use Rattle.std.proofs.Common.{length}
use Rattle.lucy_normal.proofs.Pouring.{Poured}
use Rattle.lucy_normal.proofs.flattening.pour.Given as goal

abbrev pub invariant-loop-from : goal.invariant-loop-from
invariant-loop-from l = Poured l.start l.fn.from l.from l.fn.to l.to

abbrev pub decreases-loop-from : goal.decreases-loop-from
decreases-loop-from l = length l.from
