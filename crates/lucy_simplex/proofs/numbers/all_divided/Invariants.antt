use Rattle.std.specs.List.{AllZip}
use Rattle.std.proofs.Common.{take}
use Rattle.lucy_simplex.specs.Steps.{IsDivided}
use Rattle.lucy_simplex.proofs.numbers.all_divided.Given as goal

abbrev pub invariant-loop-number : goal.invariant-loop-number
invariant-loop-number l = AllZip (IsDivided l.by) l.all.items (take l.number-index l.numbers)
