use Rattle.lucy_elaborate_laws.proofs.Names as proven
use Rattle.lucy_elaborate_laws.proofs.names_differ.Goals as goal

pub returns : goal.returns
returns c = λ tree parts e. proven.names_differ tree parts e
