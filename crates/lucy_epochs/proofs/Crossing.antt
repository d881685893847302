-- Plans, expressions, records, parts, rulings, grants, collections and tables may go to another thread, and may be shared among threads.
use denote.Param.Send.{IsSend, IsSync, sendable}
use Rattle.std.proofs.Crossing.{crosses, Arc-send, Arc-sync}
use Rattle.sqlite_items.proofs.boxed.Boxed.TheSendSync as boxed
use Rattle.sqlite_items.proofs.items.Items.TheSendSync as items
use Rattle.lucy_model.proofs.conditions.Condition.TheLaws.TheKnot as conditions
use Rattle.lucy_model.proofs.conditions.Op.TheSendSync as op
use Rattle.lucy_model.proofs.leaves.Leaf.TheSendSync as leaf
use Rattle.lucy_model.proofs.states.State.TheSendSync as state
use Rattle.lucy_model.proofs.terms.Term.TheSendSync as term
use Rattle.lucy_plan.proofs.name.Name.TheSendSync as name
use Rattle.lucy_plan.proofs.parts.Call.TheSendSync as call
use Rattle.lucy_plan.proofs.parts.Limits.TheSendSync as limits
use Rattle.lucy_plan.proofs.parts.Set.TheSendSync as set
use Rattle.lucy_expr.proofs.ids.Id.TheSendSync as id
use Rattle.lucy_expr.proofs.nodes.Node.TheLaws.TheKnot as nodes
use Rattle.lucy_epochs.proofs.causes.By.TheSendSync as by
use Rattle.lucy_model.specs.contracts.conditions.Condition as Condition
use Rattle.lucy_plan.specs.contracts.plans.Plan as Plan
use Rattle.lucy_expr.specs.contracts.expressions.Expr as Expr
use Rattle.lucy_expr.specs.contracts.nodes.Node as Node
use Rattle.lucy_epochs.specs.contracts.epochs.Epoch as Epoch
use Rattle.lucy_epochs.specs.contracts.parts.Part as Part
use Rattle.lucy_epochs.specs.contracts.parts.Parts as Parts
use Rattle.lucy_epochs.specs.contracts.rulings.Ruling as Ruling
use Rattle.lucy_epochs.specs.contracts.rulings.Shares as Shares
use Rattle.lucy_epochs.specs.contracts.rulings.Grant as Grant
use Rattle.lucy_epochs.specs.contracts.collecting.Collect as Collect
use Rattle.lucy_epochs.specs.contracts.collecting.CollectError as CollectError
use Rattle.lucy_epochs.specs.contracts.tables.Table as Table

-- A condition holds conditions: it crosses where all that it is made of does.
condition_send : IsSend Condition.the_field.row
condition_send = conditions.send-Condition term.the_field_send op.the_field_send (search sendable) boxed.the_send items.the_send

condition_sync : IsSync Condition.the_field.row
condition_sync = conditions.sync-Condition term.the_field_sync op.the_field_sync (search sendable) boxed.the_sync items.the_sync

pub plan_send : IsSend Plan.the_row
plan_send = search (sendable, crosses, condition_send, leaf.the_field_send, state.the_send, limits.the_field_send, set.the_field_send, name.the_send, items.the_send) depth 60 fits 10000

pub plan_sync : IsSync Plan.the_row
plan_sync = search (sendable, crosses, condition_sync, leaf.the_field_sync, state.the_sync, limits.the_field_sync, set.the_field_sync, name.the_sync, items.the_sync) depth 60 fits 10000

-- A node shares nodes, so that it goes to a thread only if it may be shared, too.
node_send : IsSend Node.the_field.row
node_send = nodes.both_send-Node id.the_field_send id.the_field_sync call.the_field_send call.the_field_sync Arc-send Arc-sync

node_sync : IsSync Node.the_field.row
node_sync = nodes.both_sync-Node id.the_field_send id.the_field_sync call.the_field_send call.the_field_sync Arc-send Arc-sync

pub expr_send : IsSend Expr.the_row
expr_send = search (sendable, crosses, node_send, node_sync) depth 20

pub expr_sync : IsSync Expr.the_row
expr_sync = search (sendable, crosses, node_send, node_sync) depth 20

pub epoch_send : IsSend Epoch.the_row
epoch_send = search (sendable, crosses, plan_send, plan_sync, state.the_send, state.the_sync, by.the_field_send) depth 20

pub epoch_sync : IsSync Epoch.the_row
epoch_sync = search (sendable, crosses, plan_send, plan_sync, state.the_send, state.the_sync, by.the_field_sync) depth 20

pub part_send : IsSend Part.the_row
part_send = search (sendable, crosses, epoch_send, epoch_sync, state.the_send, state.the_sync, expr_send) depth 20

pub part_sync : IsSync Part.the_row
part_sync = search (sendable, crosses, epoch_send, epoch_sync, state.the_send, state.the_sync, expr_sync) depth 20

pub parts_send : IsSend Parts.the_row
parts_send = search (sendable, crosses, part_send) depth 20

pub parts_sync : IsSync Parts.the_row
parts_sync = search (sendable, crosses, part_sync) depth 20

pub ruling_send : IsSend Ruling.the_field.row
ruling_send = search (sendable, crosses, epoch_send, epoch_sync, parts_send, parts_sync) depth 20

pub ruling_sync : IsSync Ruling.the_field.row
ruling_sync = search (sendable, crosses, epoch_send, epoch_sync, parts_send, parts_sync) depth 20

pub shares_send : IsSend Shares.the_field.row
shares_send = search (sendable, crosses, epoch_send, epoch_sync, parts_send, parts_sync, state.the_send, state.the_sync) depth 20

pub shares_sync : IsSync Shares.the_field.row
shares_sync = search (sendable, crosses, epoch_send, epoch_sync, parts_send, parts_sync, state.the_send, state.the_sync) depth 20

pub grant_send : IsSend Grant.the_row
grant_send = search (sendable, crosses, shares_send) depth 20

pub grant_sync : IsSync Grant.the_row
grant_sync = search (sendable, crosses, shares_sync) depth 20

pub collect_error_send : IsSend CollectError.the_field.row
collect_error_send = search (sendable, crosses, epoch_send, epoch_sync) depth 20

pub collect_error_sync : IsSync CollectError.the_field.row
collect_error_sync = search (sendable, crosses, epoch_send, epoch_sync) depth 20

pub collect_send : IsSend Collect.the_row
collect_send = search (sendable, crosses, epoch_send, epoch_sync, part_send) depth 20

pub collect_sync : IsSync Collect.the_row
collect_sync = search (sendable, crosses, epoch_send, epoch_sync, part_sync) depth 20

pub table_send : IsSend Table.the_row
table_send = search (sendable, crosses, epoch_send, epoch_sync) depth 20

pub table_sync : IsSync Table.the_row
table_sync = search (sendable, crosses, epoch_send, epoch_sync) depth 20

-- The list for a proof above: search (sendable, crosses, held) depth 20, with the crosses of std.
pub ruleset held = (plan_send, plan_sync, expr_send, expr_sync, epoch_send, epoch_sync, part_send, part_sync, parts_send, parts_sync, ruling_send, ruling_sync, shares_send, shares_sync, grant_send, grant_sync, collect_send, collect_sync, table_send, table_sync, state.the_send, state.the_sync, call.the_field_send, call.the_field_sync)
