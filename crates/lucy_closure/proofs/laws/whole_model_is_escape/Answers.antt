use Rattle.lucy_closure.proofs.Closures.{whole_model_is_escape}
use Rattle.lucy_closure.proofs.laws.whole_model_is_escape.Goals as goal

pub returns : goal.returns
returns c = whole_model_is_escape
