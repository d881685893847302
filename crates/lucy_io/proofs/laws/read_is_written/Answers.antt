use Rattle.lucy_io.proofs.DecimalTexts.{read_written}
use Rattle.lucy_io.proofs.laws.read_is_written.Goals as goal

pub returns : goal.returns
returns c = read_written
