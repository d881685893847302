use Rattle.std.proofs.Common.{take}
use Rattle.lucy_simplex.specs.Steps.{AreAdded}
use Rattle.lucy_simplex.proofs.numbers.all_added.Given as goal

abbrev pub invariant-loop-i : goal.invariant-loop-i
invariant-loop-i l = AreAdded l.factor (take l.i l.numbers) (take l.i l.others) l.all.items
