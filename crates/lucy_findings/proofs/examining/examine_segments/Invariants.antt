use Rattle.std.proofs.Common.{◌≡◌, length}
use Rattle.lucy_findings.specs.Findings.{AreSegmentFindings}
use Rattle.lucy_findings.proofs.examining.examine_segments.Given as goal

abbrev pub invariant-loop-segment : goal.invariant-loop-segment
invariant-loop-segment l = record {
  count : length l.findings ≡ l.segment;
  are : AreSegmentFindings l.plan 0 l.findings;
}
