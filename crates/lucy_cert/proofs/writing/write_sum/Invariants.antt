use Rattle.std.proofs.Common.{◌≡◌, ◌++◌, drop}
use Rattle.lucy_cert.specs.Cutting.{behind_spaces}
use Rattle.lucy_cert.specs.Texts.{sum_pieces}
use Rattle.lucy_cert.proofs.writing.write_sum.Given as goal

abbrev pub invariant-loop-times : goal.invariant-loop-times
invariant-loop-times l = l.out.items ++ behind_spaces (sum_pieces (drop l.times-index l.terms)) ≡ l.fn.out.items ++ behind_spaces (sum_pieces l.terms)
