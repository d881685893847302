use Rattle.std.proofs.Common.{arith}
use Rattle.lucy_simplex.proofs.Pushing.{push_added}
use Rattle.lucy_simplex.proofs.numbers.all_added.Goals as goal

pub loop-i-preserved : goal.loop-i-preserved
loop-i-preserved c =
    push_added c.args.factor c.args.numbers.now c.args.others.now c.loop-i.all.items c.push_fraction.new.all.items c.loop-i.i c.index-numbers-i.result c.index-others-i.result c.in-Ok.sum
    (omega arith) (omega (arith, c.requires)) c.index-numbers-i.is c.index-others-i.is c.loop-i.invariant c.in-Ok.ensures c.in_ok-push_fraction.ensures
