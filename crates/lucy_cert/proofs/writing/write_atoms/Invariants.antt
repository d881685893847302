use Rattle.std.proofs.Common.{◌≡◌, ◌++◌, length}
use Rattle.lucy_cert.specs.Cutting.{behind_spaces}
use Rattle.lucy_cert.specs.Texts.{clause_pieces}
use Rattle.lucy_cert.proofs.writing.write_atoms.Given as goal

abbrev pub invariant-loop-atom : goal.invariant-loop-atom
invariant-loop-atom l = l.out.items ++ behind_spaces (clause_pieces l.rest) ≡ l.fn.out.items ++ behind_spaces (clause_pieces l.atoms)

abbrev pub decreases-loop-atom : goal.decreases-loop-atom
decreases-loop-atom l = length l.rest
