use Rattle.std.proofs.Common.{◌≡◌, drop}
use Rattle.std.specs.List.{list_all}
use Rattle.lucy_cert.specs.Writable.{atom_fits, clause_fits}
use Rattle.lucy_solver.proofs.testing.clause_fits.Given as goal

abbrev pub invariant-loop-atom : goal.invariant-loop-atom
invariant-loop-atom l = clause_fits l.clause ≡ list_all atom_fits (drop l.atom-index l.atom-items)
