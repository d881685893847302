use Rattle.std.proofs.Common.{◌≡◌, take, length}
use Rattle.lucy_normal.proofs.fronts.shorten.Given as goal

abbrev pub invariant-loop-items : goal.invariant-loop-items
invariant-loop-items g l = take l.length l.fn.items ≡ take l.length l.items

abbrev pub decreases-loop-items : goal.decreases-loop-items
decreases-loop-items g l = length l.items
