use Rattle.lucy_lexer.proofs.FirstFaults.{first_is_told}
use Rattle.lucy_lexer.proofs.laws.first_fault_is_told.Goals as goal

pub returns : goal.returns
returns c = first_is_told
