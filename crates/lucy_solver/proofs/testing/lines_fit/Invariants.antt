use Rattle.std.proofs.Common.{◌≡◌, drop}
use Rattle.std.specs.List.{list_all}
use Rattle.lucy_cert.specs.Writable.{line_fits}
use Rattle.lucy_solver.proofs.testing.lines_fit.Given as goal

abbrev pub invariant-loop-line : goal.invariant-loop-line
invariant-loop-line l = list_all line_fits l.lines ≡ list_all line_fits (drop l.line-index l.lines)
