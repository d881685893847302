use Rattle.lucy_core.proofs.Meaning.{step_safe}
use Rattle.lucy_core.proofs.laws.steps_keep_safe.Goals as goal

pub returns : goal.returns
returns c = step_safe c.submit_keeps.ensures c.receive_keeps.ensures c.adopt_keeps.ensures c.same_exactly.ensures c.next_record_is_in_segment.ensures c.settled_is_whole.ensures
