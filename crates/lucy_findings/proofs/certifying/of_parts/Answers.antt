use Rattle.lucy_findings.proofs.Making.{can_be_written}
use Rattle.lucy_findings.proofs.certifying.of_parts.Goals as goal

pub returns-clause-writable : goal.returns-clause-writable
returns-clause-writable c = can_be_written c.args.parts.items c.args.parts.most c.requires.ascend c.narrow.ensures
