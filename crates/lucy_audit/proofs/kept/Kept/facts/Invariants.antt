use Rattle.lucy_replica.specs.Replicas.{Replica}
use Rattle.lucy_replica.specs.Facts.{IsSettled}
use Rattle.lucy_audit.specs.Differences.{IsAt}
use Rattle.lucy_audit.specs.Checks.{Below, left_of}
use Rattle.lucy_audit.proofs.kept.Kept.facts.Given as goal

abbrev pub invariant-loop-place : goal.invariant-loop-place
invariant-loop-place l = Below l.place (λ place. (replica : Replica) → IsAt (left_of l.self) place replica → IsSettled replica)
