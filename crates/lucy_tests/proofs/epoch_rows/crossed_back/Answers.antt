use Rattle.std.proofs.Crossing.{crosses}
use Rattle.lucy_epochs.proofs.Crossing.{held}
use denote.Param.Send.{sendable}
use Rattle.lucy_tests.proofs.epoch_rows.crossed_back.Goals as goal

pub join-requires-send-F : goal.join-requires-send-F
join-requires-send-F g c κs within = search (sendable, crosses, held) depth 20

pub join-requires-send-A : goal.join-requires-send-A
join-requires-send-A g c κs within = search (sendable, crosses, held) depth 20
