use Rattle.std.proofs.Common.{arith}
use Rattle.lucy_simplex.proofs.Pushing.{push_divided}
use Rattle.lucy_simplex.proofs.numbers.all_divided.Goals as goal

pub loop-number-preserved : goal.loop-number-preserved
loop-number-preserved c =
    let gives = c.in-Ok.ensures in
    push_divided c.args.by c.loop-number.all.items c.args.numbers.now c.push_fraction.new.all.items c.loop-number.number-index c.number-item.result c.in-Ok.quotient
    (omega arith) c.number-item.is c.loop-number.invariant gives.0 c.in_ok-push_fraction.ensures
