use Rattle.std.proofs.Common.{◌≡◌, true, drop}
use Rattle.std.specs.List.{list_all}
use Rattle.lucy_clauses.specs.Formulas.{is_narrow_clause, clause_true}
use Rattle.lucy_clauses.proofs.formulas.are_clauses_true.Given as goal

abbrev pub invariant-loop-clause : goal.invariant-loop-clause
invariant-loop-clause l = (list_all (clause_true l.numbers) l.clauses ≡ list_all (clause_true l.numbers) (drop l.clause-index l.clauses)) × (list_all (is_narrow_clause l.ranges) (drop l.clause-index l.clauses) ≡ true)
