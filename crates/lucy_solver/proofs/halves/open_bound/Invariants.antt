use Rattle.std.proofs.Common.{◌≡◌, drop}
use Rattle.lucy_solver.specs.Boxes.{all_single}
use Rattle.lucy_solver.proofs.halves.open_bound.Given as goal

abbrev pub invariant-loop-i : goal.invariant-loop-i
invariant-loop-i l = all_single l.bounds ≡ all_single (drop l.i l.bounds)
