use Rattle.std.proofs.Common.{◌≡◌, take}
use Rattle.lucy_plan.proofs.segments.settle.Given as goal

abbrev pub invariant-loop-leaf : goal.invariant-loop-leaf
invariant-loop-leaf l = l.numbers.items ≡ take l.leaf l.raw
