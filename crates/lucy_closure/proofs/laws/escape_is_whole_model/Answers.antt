use Rattle.lucy_closure.proofs.Closures.{escape_is_whole_model}
use Rattle.lucy_closure.proofs.laws.escape_is_whole_model.Goals as goal

pub returns : goal.returns
returns c = escape_is_whole_model
