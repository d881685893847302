use Rattle.std.proofs.Common.{◌≡◌}
use Rattle.lucy_clauses.specs.Sums.{negative_part}
use Rattle.lucy_clauses.proofs.Mapping.{front_mapped}
use Rattle.lucy_clauses.proofs.dividing.negate_all.Given as goal

abbrev pub invariant-loop-i : goal.invariant-loop-i
invariant-loop-i l = l.parts.items ≡ front_mapped (negative_part) l.i l.fn.parts.items
