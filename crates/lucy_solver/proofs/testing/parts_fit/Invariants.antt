use Rattle.std.proofs.Common.{◌≡◌, drop}
use Rattle.std.specs.List.{list_all}
use Rattle.lucy_cert.specs.Writable.{part_fits}
use Rattle.lucy_solver.proofs.testing.parts_fit.Given as goal

abbrev pub invariant-loop-part : goal.invariant-loop-part
invariant-loop-part l = list_all part_fits l.parts ≡ list_all part_fits (drop l.part-index l.parts)
