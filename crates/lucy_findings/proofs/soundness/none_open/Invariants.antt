use Rattle.std.proofs.Common.{◌≡◌, drop}
use Rattle.std.specs.List.{list_all}
use Rattle.lucy_findings.specs.Findings.{is_not_open}
use Rattle.lucy_findings.proofs.soundness.none_open.Given as goal

abbrev pub invariant-loop-segment : goal.invariant-loop-segment
invariant-loop-segment l = list_all is_not_open l.segments ≡ list_all is_not_open (drop l.segment-index l.segments)
