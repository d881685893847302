use Rattle.std.proofs.Common.{◌≡◌, drop}
use Rattle.lucy_plan.specs.Faults.{slot_fault}
use Rattle.lucy_plan.proofs.terms.test_slots.Given as goal

abbrev pub invariant-loop-share : goal.invariant-loop-share
invariant-loop-share l = slot_fault l.end l.shares ≡ slot_fault l.end (drop l.share-index l.shares)
