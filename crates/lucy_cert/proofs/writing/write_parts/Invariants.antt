use Rattle.std.proofs.Common.{◌≡◌, ◌++◌, map, drop}
use Rattle.lucy_cert.specs.Cutting.{behind_spaces}
use Rattle.lucy_cert.specs.Tokens.{part_text}
use Rattle.lucy_cert.proofs.writing.write_parts.Given as goal

abbrev pub invariant-loop-part : goal.invariant-loop-part
invariant-loop-part l = l.out.items ++ behind_spaces (map part_text (drop l.part-index l.parts)) ≡ l.fn.out.items ++ behind_spaces (map part_text l.parts)
