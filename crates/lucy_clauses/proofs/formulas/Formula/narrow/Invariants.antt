use Rattle.std.proofs.Common.{◌≡◌, drop}
use Rattle.std.specs.List.{list_all}
use Rattle.lucy_clauses.specs.Formulas.{is_narrow_clause}
use Rattle.lucy_clauses.proofs.formulas.Formula.narrow.Given as goal

abbrev pub invariant-loop-clause : goal.invariant-loop-clause
invariant-loop-clause l = list_all (is_narrow_clause l.self.ranges) l.clause-items ≡ list_all (is_narrow_clause l.self.ranges) (drop l.clause-index l.clause-items)
