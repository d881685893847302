use Rattle.std.proofs.Common.{◌≡◌, drop}
use Rattle.lucy_solver.specs.Denials.{all_false}
use Rattle.lucy_solver.proofs.searching.all_false.Given as goal

abbrev pub invariant-loop-atom : goal.invariant-loop-atom
invariant-loop-atom l = all_false l.decisions l.atoms ≡ all_false l.decisions (drop l.atom-index l.atoms)
