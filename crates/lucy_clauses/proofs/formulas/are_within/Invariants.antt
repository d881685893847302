use Rattle.std.proofs.Common.{◌≡◌, drop}
use Rattle.lucy_clauses.specs.Formulas.{are_within}
use Rattle.lucy_clauses.proofs.formulas.are_within.Given as goal

abbrev pub invariant-loop-i : goal.invariant-loop-i
invariant-loop-i l = are_within l.ranges l.numbers ≡ are_within (drop l.i l.ranges) (drop l.i l.numbers)
