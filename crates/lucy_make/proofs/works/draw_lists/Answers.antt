use Rattle.std.proofs.Common.{[]}
use Rattle.lucy_make.specs.Drawing.{many}
use Rattle.lucy_make.specs.Work.{calls_of, lists_of}
use Rattle.lucy_make.proofs.Drawn.{many_more, many_end}
use Rattle.lucy_make.proofs.works.draw_lists.Goals as goal

pub loop-replica-preserved : goal.loop-replica-preserved
loop-replica-preserved c =
    many_more (calls_of c.args.txns.now c.args.count) c.args.replicas c.loop-replica._replica c.loop-replica.lists c.push.new.self c.loop-replica.chaos c.draw_list.new.chaos c.in_ok-calls.calls
    (many (calls_of c.args.txns.now c.args.count) c.args.replicas [] c.args.chaos.now) c.loop-replica-test.true c.in_ok-push.ensures.ok c.in_ok-calls.ensures c.loop-replica.invariant

pub returns : goal.returns
unfolding lists_of
returns c =
    many_end (calls_of c.args.txns.now c.args.count) c.args.replicas c.loop-replica._replica c.loop-replica.lists c.loop-replica.chaos (many (calls_of c.args.txns.now c.args.count) c.args.replicas [] c.args.chaos.now)
    c.loop-replica-test.false c.loop-replica.invariant
