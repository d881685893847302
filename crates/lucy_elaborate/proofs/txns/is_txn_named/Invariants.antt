use Rattle.std.proofs.Common.{◌≡◌, drop}
use Rattle.lucy_elaborate.specs.Txns.{is_txn_named}
use Rattle.lucy_elaborate.proofs.txns.is_txn_named.Given as goal

abbrev pub invariant-loop-txn : goal.invariant-loop-txn
invariant-loop-txn l = is_txn_named l.name l.txns ≡ is_txn_named l.name (drop l.txn-index l.txns)
