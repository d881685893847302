use Rattle.std.proofs.Common.{◌++◌, drop}
use Rattle.lucy_checker.specs.Propagation.{AreSame}
use Rattle.lucy_checker.proofs.falses.falses_of.Given as goal

abbrev pub invariant-loop-atom : goal.invariant-loop-atom
invariant-loop-atom l = AreSame (l.falses ++ drop l.atom-index l.atoms) l.atoms
