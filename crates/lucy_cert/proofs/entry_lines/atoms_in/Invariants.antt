use Rattle.std.proofs.Common.{◌≡◌, false, [], length}
use Rattle.lucy_cert.specs.Entries.{atoms_of}
use Rattle.lucy_cert.specs.Lefts.{left}
use Rattle.lucy_cert.proofs.entry_lines.atoms_in.Given as goal

abbrev pub invariant-loop-piece : goal.invariant-loop-piece
invariant-loop-piece l = atoms_of false l.atoms l.parts.items (left l.rest) ≡ atoms_of false [] [] (left l.fn.pieces)

abbrev pub decreases-loop-piece : goal.decreases-loop-piece
decreases-loop-piece l = length (left l.rest)
