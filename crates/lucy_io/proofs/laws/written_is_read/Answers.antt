use Rattle.lucy_io.proofs.DecimalTexts.{written_read}
use Rattle.lucy_io.proofs.laws.written_is_read.Goals as goal

pub returns : goal.returns
returns c = written_read
