use Rattle.std.proofs.Common.{◌≡◌, ◌++◌, drop, length}
use Rattle.lucy_closure.specs.Merges.{merged_leaves}
use Rattle.lucy_closure.proofs.merges.add_merged.Given as goal

abbrev pub invariant-loop-i : goal.invariant-loop-i
invariant-loop-i l = l.fn.parts ++ merged_leaves (length l.object) 0 l.object ≡ l.parts ++ merged_leaves (length l.object) l.i (drop l.i l.object)
