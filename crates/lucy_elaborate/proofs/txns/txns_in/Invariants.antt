use Rattle.std.proofs.Common.{◌≡◌, drop}
use Rattle.lucy_gather.specs.Steps.{each}
use Rattle.lucy_elaborate.specs.Txns.{txn_in}
use Rattle.lucy_elaborate.proofs.txns.txns_in.Given as goal

abbrev pub invariant-loop-txn : goal.invariant-loop-txn
invariant-loop-txn l = each (txn_in l.scope) (drop l.txn-index l.txns) l.found ≡ each (txn_in l.scope) l.txns l.fn.found
