use Rattle.std.proofs.Common.{◌≡◌, ◌+◌, ◌-◌, ◌^◌, ◌≤◌, min, true, length, drop}
use Rattle.lucy_clauses.specs.Formulas.{names_below, weight}
use Rattle.lucy_simplex.proofs.rows.weight.Given as goal

abbrev pub invariant-loop-part : goal.invariant-loop-part
invariant-loop-part l = (l.total ≤ 2 ^ 128 - 1) × (min (l.fn.first + weight l.bounds l.parts) (2 ^ 128 - 1) ≡ min (l.total + weight l.bounds (drop l.part-index l.parts)) (2 ^ 128 - 1)) × (names_below (length l.bounds) (drop l.part-index l.parts) ≡ true)
