use Rattle.std.proofs.Common.{◌≡◌, drop}
use Rattle.std.specs.Prelude.{map}
use Rattle.lucy_plan.specs.Faults.{first_of, place_fault}
use Rattle.lucy_plan.proofs.checks.test_places.Given as goal

abbrev pub invariant-loop-place : goal.invariant-loop-place
invariant-loop-place l = first_of (map (place_fault l.rule l.end) l.places) ≡ first_of (map (place_fault l.rule l.end) (drop l.place-index l.places))
