use Rattle.lucy_syntax_laws.proofs.Faults.{same_read}
use Rattle.lucy_syntax_laws.proofs.same_words_are_read.Goals as goal

pub returns : goal.returns
returns c = same_read
