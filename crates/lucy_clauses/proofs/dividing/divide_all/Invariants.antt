use Rattle.std.proofs.Common.{◌≡◌}
use Rattle.lucy_clauses.specs.Dividing.{divided}
use Rattle.lucy_clauses.proofs.Mapping.{front_mapped}
use Rattle.lucy_clauses.proofs.dividing.divide_all.Given as goal

abbrev pub invariant-loop-i : goal.invariant-loop-i
invariant-loop-i l = l.parts.items ≡ front_mapped (divided l.by) l.i l.fn.parts.items
