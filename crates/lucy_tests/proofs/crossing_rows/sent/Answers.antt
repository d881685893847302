use Rattle.std.proofs.Crossing.{crosses}
use Rattle.lucy_replica.proofs.Crossing.{packet_send, checked_sync}
use denote.Param.Send.{sendable}
use Rattle.lucy_tests.proofs.crossing_rows.sent.Goals as goal

pub join-requires-send-F : goal.join-requires-send-F
join-requires-send-F g c κs within = search (sendable, crosses, packet_send, checked_sync) depth 20

pub join-requires-send-A : goal.join-requires-send-A
join-requires-send-A g c κs within = search (sendable, crosses, packet_send, checked_sync) depth 20
