use Rattle.std.proofs.Common.{◌≡◌, take, length}
use Rattle.lucy_epochs.proofs.epochs.raw_of.Given as goal

abbrev pub invariant-loop-leaf : goal.invariant-loop-leaf
invariant-loop-leaf l = (length l.raw ≡ length l.state) × (take l.leaf l.raw ≡ take l.leaf l.state)
