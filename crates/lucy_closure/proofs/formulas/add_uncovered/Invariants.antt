use Rattle.std.proofs.Common.{◌≡◌, ◌++◌, drop, map, true}
use Rattle.lucy_closure.specs.Formulas.{uncovered, are_over}
use Rattle.lucy_closure.proofs.formulas.add_uncovered.Given as goal

abbrev pub invariant-loop-segment : goal.invariant-loop-segment
invariant-loop-segment l =
    (l.fn.parts ++ map uncovered l.segments ≡ l.parts ++ map uncovered (drop l.segment-index l.segments))
    × (are_over l.leaves (drop l.segment-index l.segments) ≡ true)
