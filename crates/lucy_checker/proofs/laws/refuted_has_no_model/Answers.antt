use Rattle.lucy_checker.proofs.Soundness.{no_model}
use Rattle.lucy_checker.proofs.laws.refuted_has_no_model.Goals as goal

pub returns : goal.returns
returns c = no_model
