use Rattle.std.proofs.Common.{length, refl}
use Rattle.lucy_make.proofs.DrawnValues.{call_is}
use Rattle.lucy_make.proofs.works.draw_call.Goals as goal

pub returns : goal.returns
returns c =
    call_is c.args.txns.now c.args.chaos.now c.draw-txn.new.self c.draw_arguments.new.chaos (length c.args.txns.now) c.draw-txn.result c.in_ok-arguments.arguments c.params_at.result.now
    refl c.draw-txn.ensures.value c.params_at.ensures c.in_ok-arguments.ensures
