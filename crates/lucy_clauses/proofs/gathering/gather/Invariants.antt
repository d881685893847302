use Rattle.std.proofs.Common.{◌≡◌, true, drop}
use Rattle.lucy_clauses.specs.Parts.{gathered_onto, gathered, stays_within}
use Rattle.lucy_clauses.specs.Normal.{IsGathered}
use Rattle.lucy_clauses.proofs.gathering.gather.Given as goal

abbrev pub invariant-loop-part : goal.invariant-loop-part
invariant-loop-part l =
    (gathered_onto l.sum.items (drop l.part-index l.parts) ≡ gathered l.parts) × (stays_within l.sum.items (drop l.part-index l.parts) ≡ true) × IsGathered l.sum.items
