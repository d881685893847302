use Rattle.lucy_replica.proofs.Settling.{receive_keeps}
use Rattle.lucy_replica.proofs.laws.receive_keeps.Goals as goal

pub returns : goal.returns
returns c =
    receive_keeps c.closed_segment_holds_values.ensures c.merge_is_idempotent.ensures c.segment_is_whole.ensures c.same_exactly.ensures
