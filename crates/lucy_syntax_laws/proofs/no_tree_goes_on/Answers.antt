use Rattle.lucy_syntax_laws.proofs.Faults.{goes_on}
use Rattle.lucy_syntax_laws.proofs.no_tree_goes_on.Goals as goal

pub returns : goal.returns
returns c = goes_on c.spans_ascend.ensures
