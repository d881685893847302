use Rattle.std.proofs.Common.{take}
use Rattle.lucy_simplex.specs.Multipliers.{AreMultipliers}
use Rattle.lucy_simplex.proofs.multipliers.scaled.Given as goal

abbrev pub invariant-loop-number : goal.invariant-loop-number
invariant-loop-number l = AreMultipliers l.common (take l.number-index l.numbers) l.all.items
