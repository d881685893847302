use Rattle.lucy_closure.proofs.Covers.{cover_model_is_uncovered}
use Rattle.lucy_closure.proofs.laws.cover_model_is_uncovered.Goals as goal

pub returns : goal.returns
returns c = cover_model_is_uncovered
