use Rattle.lucy_judge.proofs.Sound.{sound}
use Rattle.lucy_judge.proofs.laws.accepted_is_sound.Goals as goal

pub returns : goal.returns
returns c = sound c.refutes_exactly.ensures c.refuted_has_no_model.ensures c.escape_is_closure_model.ensures c.uncovered_is_cover_model.ensures
