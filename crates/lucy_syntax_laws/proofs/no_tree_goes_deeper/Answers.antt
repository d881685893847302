use Rattle.lucy_syntax_laws.proofs.Faults.{goes_deeper}
use Rattle.lucy_syntax_laws.proofs.no_tree_goes_deeper.Goals as goal

pub returns : goal.returns
returns c = goes_deeper c.spans_ascend.ensures
