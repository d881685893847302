use Rattle.std.proofs.Common.{◌≡◌, drop}
use Rattle.lucy_elaborate.specs.Segments.{place_from}
use Rattle.lucy_elaborate.proofs.segments.place_of.Given as goal

abbrev pub invariant-loop-place : goal.invariant-loop-place
invariant-loop-place l = place_from l.place l.name (drop l.place l.txns) ≡ place_from 0 l.name l.txns
