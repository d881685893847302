use Rattle.std.proofs.Common.{◌≡◌, drop}
use Rattle.lucy_checker.specs.Propagation.{open_under}
use Rattle.lucy_checker.proofs.propagation.first_open.Given as goal

abbrev pub invariant-loop-i : goal.invariant-loop-i
invariant-loop-i l = open_under l.falses l.atoms ≡ open_under l.falses (drop l.i l.atoms)
