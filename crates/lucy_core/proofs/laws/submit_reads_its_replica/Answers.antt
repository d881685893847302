use Rattle.lucy_core.proofs.Reading.{submit_reads}
use Rattle.lucy_core.proofs.laws.submit_reads_its_replica.Goals as goal

pub returns : goal.returns
returns c = submit_reads
