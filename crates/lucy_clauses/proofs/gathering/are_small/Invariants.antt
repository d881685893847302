use Rattle.std.proofs.Common.{◌≡◌, ◌+◌, ◌-◌, ◌^◌, ◌≤◌, min, drop}
use Rattle.lucy_clauses.specs.Parts.{total_size}
use Rattle.lucy_clauses.proofs.gathering.are_small.Given as goal

abbrev pub invariant-loop-part : goal.invariant-loop-part
invariant-loop-part l =
    (l.total ≤ 2 ^ 128 - 1) × (min (total_size l.parts) (2 ^ 128 - 1) ≡ min (l.total + total_size (drop l.part-index l.parts)) (2 ^ 128 - 1))
