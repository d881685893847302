use Rattle.std.proofs.Common.{◌≡◌, [], length}
use Rattle.lucy_cert.specs.Entries.{counts_of}
use Rattle.lucy_cert.specs.Lefts.{left}
use Rattle.lucy_cert.proofs.entry_lines.counts_in.Given as goal

abbrev pub invariant-loop-piece : goal.invariant-loop-piece
invariant-loop-piece l = counts_of l.found (left l.rest) ≡ counts_of [] (left l.fn.pieces)

abbrev pub decreases-loop-piece : goal.decreases-loop-piece
decreases-loop-piece l = length (left l.rest)
