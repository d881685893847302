use Rattle.lucy_make.proofs.DrawnValues.{no_calls}
use Rattle.lucy_make.proofs.works.draw_list.Goals as goal

pub returns-then-is_empty : goal.returns-then-is_empty
returns-then-is_empty c =
    no_calls c.args.txns.now c.args.count c.args.chaos.now c.is_empty.result c.new.result c.is_empty.ensures c.if-is_empty.true c.new.ensures
