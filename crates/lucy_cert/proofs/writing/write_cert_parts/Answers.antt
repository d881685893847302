use Rattle.lucy_cert.specs.Texts.{part_entries}
use Rattle.lucy_cert.proofs.TextLemmas.{one_more}
use Rattle.lucy_cert.proofs.writing.write_cert_parts.Goals as goal

pub loop-part-preserved : goal.loop-part-preserved
loop-part-preserved c =
    one_more part_entries c.args.parts.now c.loop-part.part-index c.part-item.result _ _ _ c.loop-part-test.true c.part-item.is c.in_ok-write_cert_part.ensures c.loop-part.invariant
