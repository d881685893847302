use Rattle.std.proofs.Common.{append_assoc}
use Rattle.lucy_report.specs.VerdictLines.{start_breaks}
use Rattle.lucy_report.proofs.verdict_lines.write_start_breaks.Goals as goal

pub returns : goal.returns
unfolding start_breaks
returns c = simp (c.in_ok-write_text-2.ensures, c.in_ok-write_state.ensures, c.as_slice.ensures, c.in_ok-write_text.ensures, append_assoc)
