use Rattle.std.proofs.Common.{◌≡◌, ◌++◌, map, drop}
use Rattle.lucy_cert.specs.declared.entries.Entry.TheVariants as entry
use Rattle.lucy_cert.specs.Texts.{lines_text}
use Rattle.lucy_cert.proofs.writing.write_lines.Given as goal

abbrev pub invariant-loop-line : goal.invariant-loop-line
invariant-loop-line l = l.out.items ++ lines_text (map entry.Derivation (drop l.line-index l.lines)) ≡ l.fn.out.items ++ lines_text (map entry.Derivation l.lines)
