use Rattle.std.proofs.Common.{◌≡◌, map, length}
use Rattle.lucy_replica.specs.Replicas.{Seen}
use Rattle.lucy_audit.specs.Tallies.{AreTallies}
use Rattle.lucy_audit.proofs.tallies.tallies_of.Given as goal

abbrev pub invariant-loop-place : goal.invariant-loop-place
invariant-loop-place l = record {
  long : length l.tallies ≡ l.place;
  right : AreTallies (map (λ (life : Seen). life.replica) l.lives) l.tallies;
}
