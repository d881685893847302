use Rattle.std.proofs.Common.{◌≡◌, ◌++◌, drop}
use Rattle.lucy_solver.specs.Boxes.{point}
use Rattle.lucy_solver.proofs.halves.point.Given as goal

abbrev pub invariant-loop-bound : goal.invariant-loop-bound
invariant-loop-bound l = l.numbers.items ++ point (drop l.bound-index l.bounds) ≡ point l.bounds
