use Rattle.std.proofs.Common.{◌≡◌, true, drop}
use Rattle.std.specs.List.{list_all, list_any}
use Rattle.lucy_clauses.specs.Sums.{is_true}
use Rattle.lucy_clauses.specs.Formulas.{is_narrow_atom}
use Rattle.lucy_clauses.proofs.formulas.Clause.is_true.Given as goal

abbrev pub invariant-loop-atom : goal.invariant-loop-atom
invariant-loop-atom l = (list_any (is_true l.assignment) l.atom-items ≡ list_any (is_true l.assignment) (drop l.atom-index l.atom-items)) × (list_all (is_narrow_atom l.ranges) (drop l.atom-index l.atom-items) ≡ true)
