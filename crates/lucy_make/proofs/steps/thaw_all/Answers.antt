use Rattle.lucy_make.specs.Steps.{thaws}
use Rattle.lucy_make.proofs.Drawn.{thaw_more}
use Rattle.lucy_make.proofs.steps.thaw_all.Goals as goal

pub loop-replica-preserved : goal.loop-replica-preserved
loop-replica-preserved c =
    thaw_more c.args.replicas c.loop-replica.replica c.loop-replica.script c.put.new.script (thaws c.args.replicas 0 c.args.script.now) c.loop-replica-test.true c.in_ok-put.ensures c.loop-replica.invariant
