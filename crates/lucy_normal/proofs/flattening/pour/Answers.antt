use Rattle.std.proofs.Common.{arith}
use Rattle.lucy_normal.proofs.Gatherings.{begins_take, take_less}
use Rattle.lucy_normal.proofs.flattening.pour.Goals as goal

pub returns-in_err-push-in-Some-clause-front : goal.returns-in_err-push-in-Some-clause-front
returns-in_err-push-in-Some-clause-front c =
    begins_take c.args.start c.args.from.now c.pop.new.self
    (take_less c.args.start c.args.from.now c.loop-from.from c.pop.new.self c.in-Some.last (omega (arith, c.loop-from-test.true, c.len.ensures)) c.loop-from.invariant.front c.in-Some.ensures)
