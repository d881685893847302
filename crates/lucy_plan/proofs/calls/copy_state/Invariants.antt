use Rattle.std.proofs.Common.{◌≡◌, take, length}
use Rattle.lucy_plan.proofs.calls.copy_state.Given as goal

abbrev pub invariant-loop-leaf : goal.invariant-loop-leaf
invariant-loop-leaf l = (length l.out ≡ length l.state) × (take l.leaf l.out ≡ take l.leaf l.state)
