use Rattle.std.proofs.Common.{◌≡◌, ◌++◌, drop}
use Rattle.std.specs.List.{flat_map}
use Rattle.lucy_cert.specs.Texts.{lines_text, part_entries}
use Rattle.lucy_cert.proofs.writing.write_cert_parts.Given as goal

abbrev pub invariant-loop-part : goal.invariant-loop-part
invariant-loop-part l = l.out.items ++ lines_text (flat_map part_entries (drop l.part-index l.parts)) ≡ l.fn.out.items ++ lines_text (flat_map part_entries l.parts)
