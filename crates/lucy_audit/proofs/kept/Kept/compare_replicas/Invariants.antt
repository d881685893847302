use Rattle.lucy_audit.specs.Checks.{Below, left_of, IsFine}
use Rattle.lucy_audit.proofs.kept.Kept.compare_replicas.Given as goal

abbrev pub invariant-loop-place : goal.invariant-loop-place
invariant-loop-place l = Below l.place (IsFine (left_of l.self))
