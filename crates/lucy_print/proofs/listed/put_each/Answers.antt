use Rattle.lucy_print.proofs.Lists.{begins, goes_on, is_over}
use Rattle.lucy_print.proofs.listed.put_each.Goals as goal

pub loop-item-init : goal.loop-item-init
loop-item-init g c = begins _ _ _

pub loop-item-preserved : goal.loop-item-preserved
loop-item-preserved g c = goes_on c.loop-item.invariant _ _ c.loop-item-test.true c.item-item.is c.in_ok-put.ensures

pub returns : goal.returns
returns g c = is_over c.loop-item.invariant c.loop-item-test.false
