use Rattle.std.proofs.Common.{◌≡◌, ◌++◌, drop}
use Rattle.lucy_report.specs.FindingLines.{segment_lines}
use Rattle.lucy_report.proofs.finding_lines.write_segments.Given as goal

abbrev pub invariant-loop-place : goal.invariant-loop-place
invariant-loop-place l = l.out.items ++ segment_lines l.plan l.place (drop l.place l.findings) ≡ l.fn.out.items ++ segment_lines l.plan 0 l.findings
