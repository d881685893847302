use Rattle.lucy_make.specs.Steps.{freezes}
use Rattle.lucy_make.proofs.Drawn.{freeze_more}
use Rattle.lucy_make.proofs.steps.freeze_all.Goals as goal

pub loop-replica-preserved : goal.loop-replica-preserved
loop-replica-preserved c =
    freeze_more c.args.replicas c.args.replicas c.loop-replica.replica (c.loop-replica.script, c.loop-replica.chaos) (c.submit_and_freeze.new.script, c.submit_and_freeze.new.chaos)
    (freezes c.args.replicas c.args.replicas 0 (c.args.script.now, c.args.chaos.now)) c.loop-replica-test.true c.in_ok-submit_and_freeze.ensures c.loop-replica.invariant
