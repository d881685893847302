use Rattle.std.proofs.Common.{◌≡◌, [], length}
use Rattle.lucy_cert.specs.Entries.{sum_of}
use Rattle.lucy_cert.specs.Lefts.{left}
use Rattle.lucy_cert.proofs.entry_lines.sum_terms.Given as goal

abbrev pub invariant-loop-by : goal.invariant-loop-by
invariant-loop-by l = sum_of l.found (left l.rest) ≡ sum_of [] (left l.fn.pieces)

abbrev pub decreases-loop-by : goal.decreases-loop-by
decreases-loop-by l = length (left l.rest)
