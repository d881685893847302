use Rattle.std.proofs.Common.{rules, ◌<◌, ◌∙◌}
use Rattle.lucy_core.proofs.Working.{freezes_more}
use Rattle.lucy_core.proofs.one_thread.push_freezes.Goals as goal

pub loop-number-preserved : goal.loop-number-preserved
loop-number-preserved c =
    let below : c.loop-number.number < c.args.replicas = search rules in
    rw c.in_ok-push.ensures.items (freezes_more c.loop-number.steps.items c.loop-number.number c.args.replicas below ∙ c.loop-number.invariant)
