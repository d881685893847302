use Rattle.lucy_findings.proofs.Making.{finding_here}
use Rattle.lucy_findings.proofs.certifying.with_segments.Goals as goal

pub with_segment-requires-clause-finding : goal.with_segment-requires-clause-finding
with_segment-requires-clause-finding c = finding_here c.args.plan.now c.loop-segment.segment c.args.findings.now c.index-findings-segment.result c.requires.findings c.loop-segment-test.true c.index-findings-segment.is
