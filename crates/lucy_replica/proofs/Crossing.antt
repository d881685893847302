-- Checked plans, packets, replies and closings may go to another thread, and may be shared among threads; a replica may go to another
-- thread. For records, parts, rulings and grants the same stands beside their types, in lucy_epochs.
use denote.Param.Send.{IsSend, IsSync, sendable}
use Rattle.std.proofs.Crossing.{crosses}
use Rattle.lucy_epochs.proofs.Crossing.{plan_send, plan_sync, expr_send, expr_sync, epoch_send, epoch_sync, parts_send, parts_sync}
use Rattle.lucy_expr.proofs.ids.Id.TheSendSync as id
use Rattle.lucy_judge.specs.contracts.checked.Checked as Checked
use Rattle.lucy_replica.specs.contracts.packets.Packet as Packet
use Rattle.lucy_replica.specs.contracts.replies.Reply as Reply
use Rattle.lucy_replica.specs.contracts.replies.Closing as Closing
use Rattle.lucy_replica.specs.contracts.life.Life as Life
use Rattle.lucy_model.proofs.states.State.TheSendSync as state
use Rattle.lucy_plan.proofs.parts.Call.TheSendSync as call

pub checked_send : IsSend Checked.the_row
checked_send = search (sendable, crosses, plan_send, plan_sync) depth 20

pub checked_sync : IsSync Checked.the_row
checked_sync = search (sendable, crosses, plan_send, plan_sync) depth 20

pub packet_send : IsSend Packet.the_row
packet_send = search (sendable, crosses, epoch_send, epoch_sync, state.the_send, state.the_sync, expr_send) depth 20

pub packet_sync : IsSync Packet.the_row
packet_sync = search (sendable, crosses, epoch_send, epoch_sync, state.the_send, state.the_sync, expr_sync) depth 20

pub reply_send : IsSend Reply.the_field.row
reply_send = search (sendable, crosses, epoch_send, epoch_sync, expr_send, parts_send, parts_sync, id.the_field_send) depth 20

pub reply_sync : IsSync Reply.the_field.row
reply_sync = search (sendable, crosses, epoch_send, epoch_sync, expr_sync, parts_send, parts_sync, id.the_field_sync) depth 20

pub closing_send : IsSend Closing.the_field.row
closing_send = search (sendable, crosses, epoch_send, epoch_sync, state.the_send, state.the_sync, expr_send) depth 20

pub closing_sync : IsSync Closing.the_field.row
closing_sync = search (sendable, crosses, epoch_send, epoch_sync, state.the_send, state.the_sync, expr_sync) depth 20

pub life_send : IsSend Life.the_row
life_send = search (sendable, crosses, checked_send, checked_sync, epoch_send, epoch_sync, state.the_send, state.the_sync, expr_send, call.the_field_send, reply_send, closing_send) depth 60 fits 10000

-- The list for a proof above: search (sendable, crosses, held, kept) depth 20.
pub ruleset kept = (checked_send, checked_sync, packet_send, packet_sync, reply_send, reply_sync, closing_send, closing_sync, life_send)
