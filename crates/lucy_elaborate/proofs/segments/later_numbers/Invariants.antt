use Rattle.std.proofs.Common.{◌≡◌, drop}
use Rattle.lucy_elaborate.specs.Segments.{later_numbers}
use Rattle.lucy_elaborate.proofs.segments.later_numbers.Given as goal

abbrev pub invariant-loop-other : goal.invariant-loop-other
invariant-loop-other l = later_numbers l.leaves l.at (drop l.other-index l.others) l.found ≡ later_numbers l.leaves l.at l.others l.fn.found
