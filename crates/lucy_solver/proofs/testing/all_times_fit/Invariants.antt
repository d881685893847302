use Rattle.std.proofs.Common.{◌≡◌, drop}
use Rattle.std.specs.List.{list_all}
use Rattle.lucy_cert.specs.Writable.{times_fits}
use Rattle.lucy_solver.proofs.testing.all_times_fit.Given as goal

abbrev pub invariant-loop-times : goal.invariant-loop-times
invariant-loop-times l = list_all times_fits l.all ≡ list_all times_fits (drop l.times-index l.all)
