use Rattle.std.proofs.Common.{rules, append_assoc}
use Rattle.lucy_print.proofs.Laying.{segment_laid}
use Rattle.lucy_print.proofs.segments.put_segment.Goals as goal

pub returns : goal.returns
returns c = search (rules, segment_laid, append_assoc)
