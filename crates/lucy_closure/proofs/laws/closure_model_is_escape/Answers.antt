use Rattle.lucy_closure.proofs.Closures.{closure_model_is_escape}
use Rattle.lucy_closure.proofs.laws.closure_model_is_escape.Goals as goal

pub returns : goal.returns
returns c = closure_model_is_escape
