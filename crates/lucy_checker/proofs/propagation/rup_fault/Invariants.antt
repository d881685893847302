use Rattle.std.proofs.Common.{◌≡◌, map, drop}
use Rattle.lucy_clauses.specs.Sums.{complement}
use Rattle.lucy_cert.specs.Justified.{rup_fault}
use Rattle.lucy_checker.proofs.propagation.rup_fault.Given as goal

abbrev pub invariant-loop-i : goal.invariant-loop-i
invariant-loop-i g l =
    rup_fault (g.L.Lookup.at l.known) (map complement l.atoms) l.hints ≡ rup_fault (g.L.Lookup.at l.known) (map complement l.falses) (drop l.i l.hints)
