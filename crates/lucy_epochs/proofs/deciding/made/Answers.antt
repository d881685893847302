use Rattle.std.proofs.Common.{ap}
use Rattle.lucy_plan.specs.Calls.{applied}
use Rattle.lucy_epochs.proofs.Merges.{parts_even, merged_opening}
use Rattle.lucy_epochs.proofs.deciding.made.Goals as goal

pub merged-requires-clause-even : goal.merged-requires-clause-even
merged-requires-clause-even c =
    rw (c.list.ensures.parts, c.as_slice.ensures, c.parts.ensures.parts, c.deref.ensures, c.plan-plan.ensures)
    (parts_even 0 c.args.epoch.now c.args.parts.now c.segment_is_whole.ensures c.requires.of_one c.list.ensures.made)

pub returns-clause-value : goal.returns-clause-value
returns-clause-value c =
    let opening = merged_opening c.args.epoch.now c.args.parts.now c.requires.of_one c.list.ensures.made in
    rw (c.apply.ensures.value, c.in_ok-state.ensures.state, c.list.ensures.parts, c.as_slice.ensures, c.parts.ensures.parts, c.deref.ensures, c.deref-2.ensures, c.plan-plan.ensures)
    (ap (applied c.args.epoch.now.plan c.args.call.now) opening)
