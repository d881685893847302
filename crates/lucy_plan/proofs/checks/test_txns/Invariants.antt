use Rattle.std.proofs.Common.{◌≡◌, drop}
use Rattle.std.specs.Prelude.{map}
use Rattle.lucy_plan.specs.Faults.{first_of, txn_fault}
use Rattle.lucy_plan.proofs.checks.test_txns.Given as goal

abbrev pub invariant-loop-txn : goal.invariant-loop-txn
invariant-loop-txn l = first_of (map (txn_fault l.rule l.leaves) l.txns) ≡ first_of (map (txn_fault l.rule l.leaves) (drop l.txn-index l.txns))
