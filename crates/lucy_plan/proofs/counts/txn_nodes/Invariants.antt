use Rattle.std.proofs.Common.{◌≡◌, min, take}
use Rattle.std.specs.Prelude.{sum_by}
use Rattle.lucy_plan.specs.Counts.{txn_nodes, most_told}
use Rattle.lucy_plan.proofs.counts.txn_nodes.Given as goal

abbrev pub invariant-loop-txn : goal.invariant-loop-txn
invariant-loop-txn l = l.count ≡ min (sum_by txn_nodes (take l.txn-index l.txns)) most_told
