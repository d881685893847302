use Rattle.std.proofs.Common.{rules, ◌<◌, ◌∙◌, arith}
use Rattle.lucy_core.proofs.Working.{thaws_more}
use Rattle.lucy_core.proofs.one_thread.push_thaws.Goals as goal

pub loop-left-preserved : goal.loop-left-preserved
loop-left-preserved c =
    let some : 0 < c.loop-left.left = omega arith in
    rw c.in_ok-push.ensures.items (thaws_more c.loop-left.steps.items c.loop-left.left some ∙ c.loop-left.invariant)
