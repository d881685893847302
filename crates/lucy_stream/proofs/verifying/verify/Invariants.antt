use Rattle.std.proofs.Common.{◌≡◌, ℕ, List, ◌++◌, length}
use Rattle.std.specs.Arc.{arc_value}
use Rattle.lucy_stream.specs.Streams.{IsFed}
use Rattle.lucy_stream.proofs.verifying.verify.Given as goal

abbrev pub invariant-loop-rest : goal.invariant-loop-rest
invariant-loop-rest l = (front : List ℕ) × IsFed (arc_value l.fn.plan) front l.stream × (front ++ l.rest ≡ l.fn.text)

abbrev pub decreases-loop-rest : goal.decreases-loop-rest
decreases-loop-rest l = length l.rest
