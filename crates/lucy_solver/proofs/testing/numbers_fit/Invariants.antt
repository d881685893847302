use Rattle.std.proofs.Common.{◌≡◌, drop}
use Rattle.std.specs.List.{list_all}
use Rattle.lucy_cert.specs.Writable.{number_fits}
use Rattle.lucy_solver.proofs.testing.numbers_fit.Given as goal

abbrev pub invariant-loop-number : goal.invariant-loop-number
invariant-loop-number l = list_all number_fits l.numbers ≡ list_all number_fits (drop l.number-index l.numbers)
