use Rattle.std.proofs.Common.{map}
use Rattle.lucy_replica.specs.Replicas.{Seen}
use Rattle.lucy_audit.specs.Checks.{states_in}
use Rattle.lucy_audit.proofs.Reopening.{AreMergedTo}
use Rattle.lucy_audit.proofs.openings.merged.Given as goal

abbrev pub invariant-loop-place : goal.invariant-loop-place
invariant-loop-place l = AreMergedTo l.before.plan.object (states_in l.before l.number (map (λ (life : Seen). life.replica) l.lives)) l.place l.state
