use Rattle.std.proofs.Common.{◌≡◌, drop}
use Rattle.lucy_plan.specs.Faults.{order_fault}
use Rattle.lucy_plan.proofs.terms.test_order.Given as goal

abbrev pub invariant-loop-share : goal.invariant-loop-share
invariant-loop-share l = order_fault 0 l.shares ≡ order_fault l.from (drop l.share-index l.shares)
