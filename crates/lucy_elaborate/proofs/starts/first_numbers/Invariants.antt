use Rattle.std.proofs.Common.{◌≡◌, ◌++◌, drop, map}
use Rattle.lucy_elaborate.specs.Starts.{first_of}
use Rattle.lucy_elaborate.proofs.starts.first_numbers.Given as goal

abbrev pub invariant-loop-leaf : goal.invariant-loop-leaf
invariant-loop-leaf l = l.numbers ++ map first_of (drop l.leaf-index l.leaves) ≡ map first_of l.leaves
