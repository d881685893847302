use Rattle.std.proofs.Common.{◌≡◌}
use Rattle.std.specs.Prelude.{Some, slice_get}
use Rattle.lucy_epochs.specs.Contributions.{Contribution}
use Rattle.lucy_replica.specs.Legal.{AreAccepted}
use Rattle.lucy_audit.specs.Checks.{Below, left_of}
use Rattle.lucy_audit.proofs.kept.Kept.compare_parts.Given as goal

abbrev pub invariant-loop-seat : goal.invariant-loop-seat
invariant-loop-seat l =
    Below l.seat (λ seat. (part : Contribution) → slice_get l.fn.parts seat ≡ Some part → AreAccepted (left_of l.self).replicas part.epoch.number part.expression.tree)
