use Rattle.std.proofs.Common.{◌≡◌, ◌++◌, map, drop}
use Rattle.lucy_clauses.specs.Sums.{complement}
use Rattle.lucy_solver.proofs.denials.denial.Given as goal

abbrev pub invariant-loop-atom : goal.invariant-loop-atom
invariant-loop-atom l = l.others.items ++ map complement (drop l.atom-index l.atoms) ≡ map complement l.atoms
