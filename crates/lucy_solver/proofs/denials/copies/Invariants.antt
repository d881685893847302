use Rattle.std.proofs.Common.{◌≡◌, take}
use Rattle.lucy_solver.proofs.denials.copies.Given as goal

abbrev pub invariant-loop-atom : goal.invariant-loop-atom
invariant-loop-atom l = l.all.items ≡ take l.atom-index l.atoms
