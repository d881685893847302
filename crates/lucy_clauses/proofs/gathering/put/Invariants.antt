use Rattle.std.proofs.Common.{◌≡◌, true, ◌++◌, take, drop}
use Rattle.lucy_clauses.specs.Parts.{put, all_within}
use Rattle.lucy_clauses.proofs.gathering.put.Given as goal

abbrev pub invariant-loop-i : goal.invariant-loop-i
invariant-loop-i l =
    (l.parts.items ≡ l.fn.parts.items) × (put l.part l.parts.items ≡ take l.i l.parts.items ++ put l.part (drop l.i l.parts.items)) × (all_within (put l.part (drop l.i l.parts.items)) ≡ true)
