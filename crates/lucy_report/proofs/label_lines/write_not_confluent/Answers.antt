use Rattle.std.proofs.Common.{append_assoc}
use Rattle.lucy_report.specs.LabelTexts.{not_confluent}
use Rattle.lucy_report.proofs.label_lines.write_not_confluent.Goals as goal

pub returns : goal.returns
unfolding not_confluent
returns c = simp (c.in_ok-write_line-2.ensures, c.in_ok-write_line.ensures, c.in_ok-write_text.ensures, append_assoc)
