use Rattle.lucy_closure.proofs.Covers.{uncovered_is_cover_model}
use Rattle.lucy_closure.proofs.laws.uncovered_is_cover_model.Goals as goal

pub returns : goal.returns
returns c = uncovered_is_cover_model
