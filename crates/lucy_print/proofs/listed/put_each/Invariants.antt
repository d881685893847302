use Rattle.std.proofs.Common.{◌++◌}
use Rattle.lucy_print.specs.Layout.{texts}
use Rattle.lucy_print.proofs.Lists.{Writing}
use Rattle.lucy_print.proofs.listed.put_each.Given as goal

abbrev pub invariant-loop-item : goal.invariant-loop-item
invariant-loop-item g l = Writing g.T.Listed.words l.items l.item-index l.out.items (l.fn.out.items ++ texts g.T.Listed.words l.items)
