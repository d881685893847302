use Rattle.std.proofs.Common.{◌≡◌, ◌++◌, drop}
use Rattle.lucy_model.specs.Merging.{merged}
use Rattle.lucy_model.proofs.merging.merge.Given as goal

abbrev pub invariant-loop-i : goal.invariant-loop-i
invariant-loop-i l =
    l.numbers.items ++ merged (drop l.i l.object) (drop l.i l.left) (drop l.i l.right) ≡ merged l.object l.left l.right
