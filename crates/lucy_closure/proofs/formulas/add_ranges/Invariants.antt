use Rattle.std.proofs.Common.{◌≡◌, ◌++◌, drop}
use Rattle.lucy_closure.specs.Formulas.{ranges_of}
use Rattle.lucy_closure.proofs.formulas.add_ranges.Given as goal

abbrev pub invariant-loop-leaf : goal.invariant-loop-leaf
invariant-loop-leaf l = l.fn.ranges ++ ranges_of l.object ≡ l.ranges ++ ranges_of (drop l.leaf-index l.object)
