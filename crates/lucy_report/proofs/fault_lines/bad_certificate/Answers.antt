use Rattle.std.proofs.Common.{◌∙◌, append_assoc}
use Rattle.lucy_report.specs.FaultLines.{bad_certificate}
use Rattle.lucy_report.proofs.fault_lines.bad_certificate.Goals as goal

pub returns : goal.returns
unfolding bad_certificate
returns c = c.in_ok-text.ensures.ok ∙ simp append_assoc
