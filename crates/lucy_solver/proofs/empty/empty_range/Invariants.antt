use Rattle.std.proofs.Common.{◌≡◌, drop}
use Rattle.std.specs.Prelude.{int_le}
use Rattle.std.specs.List.{list_all}
use Rattle.lucy_clauses.specs.declared.formulas.Range.{Range}
use Rattle.lucy_solver.proofs.empty.empty_range.Given as goal

abbrev pub invariant-loop-i : goal.invariant-loop-i
invariant-loop-i l = list_all (λ (r : Range). int_le r.lo r.hi) l.ranges ≡ list_all (λ (r : Range). int_le r.lo r.hi) (drop l.i l.ranges)
