use Rattle.std.proofs.Common.{◌≡◌, drop}
use Rattle.lucy_plan.specs.Faults.{factor_fault}
use Rattle.lucy_plan.proofs.terms.test_factors.Given as goal

abbrev pub invariant-loop-share : goal.invariant-loop-share
invariant-loop-share l = factor_fault l.shares ≡ factor_fault (drop l.share-index l.shares)
