use Rattle.lucy_stream.proofs.Heard.{as_read}
use Rattle.lucy_stream.proofs.laws.judged_as_read.Goals as goal

pub returns : goal.returns
returns c = as_read c.judged_in_parts.ensures
