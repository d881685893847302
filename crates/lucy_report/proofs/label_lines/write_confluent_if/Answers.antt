use Rattle.std.proofs.Common.{append_assoc}
use Rattle.lucy_report.specs.LabelTexts.{confluent_if}
use Rattle.lucy_report.proofs.label_lines.write_confluent_if.Goals as goal

pub returns : goal.returns
unfolding confluent_if
returns c = simp (c.in_ok-write_text-2.ensures, c.in_ok-write_spaced_states.ensures, c.in_ok-write_text.ensures, append_assoc)
