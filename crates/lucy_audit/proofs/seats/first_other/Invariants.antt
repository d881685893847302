use Rattle.std.proofs.Common.{◌≡◌}
use Rattle.std.specs.Prelude.{slice_get}
use Rattle.lucy_audit.specs.Checks.{Below}
use Rattle.lucy_audit.proofs.seats.first_other.Given as goal

abbrev pub invariant-loop-place : goal.invariant-loop-place
invariant-loop-place l = Below l.place (λ place. slice_get l.ours place ≡ slice_get l.theirs place)
