use Rattle.std.proofs.Common.{take}
use Rattle.lucy_simplex.specs.Multipliers.{IsCommon}
use Rattle.lucy_simplex.proofs.multipliers.common_of.Given as goal

abbrev pub invariant-loop-place : goal.invariant-loop-place
invariant-loop-place l = IsCommon l.common (take l.place l.numbers)
