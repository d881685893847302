use Rattle.std.proofs.Common.{◌≡◌, take}
use Rattle.lucy_model.proofs.equality.+comparing.Given as goal

abbrev pub invariant-same_parts-loop-i : goal.invariant-same_parts-loop-i
invariant-same_parts-loop-i l = take l.i l.left ≡ take l.i l.right
