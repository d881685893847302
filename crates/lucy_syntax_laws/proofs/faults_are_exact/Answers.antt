use Rattle.lucy_syntax_laws.proofs.Exact.{exact}
use Rattle.lucy_syntax_laws.proofs.faults_are_exact.Goals as goal

pub returns : goal.returns
returns c = exact c.read_is_spelled.ensures c.read_is_within.ensures c.same_words_are_read.ensures c.no_tree_goes_on.ensures c.no_tree_goes_deeper.ensures c.some_text_goes_on.ensures
