use Rattle.std.proofs.Common.{◌≡◌, drop}
use Rattle.std.specs.Prelude.{map}
use Rattle.lucy_plan.specs.Faults.{first_of, params_fault}
use Rattle.lucy_plan.proofs.checks.test_params.Given as goal

abbrev pub invariant-loop-txn : goal.invariant-loop-txn
invariant-loop-txn l = first_of (map params_fault l.txns) ≡ first_of (map params_fault (drop l.txn-index l.txns))
