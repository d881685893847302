use Rattle.std.proofs.Common.{◌≡◌, drop}
use Rattle.std.specs.List.{list_all}
use Rattle.lucy_clauses.specs.Formulas.{is_narrow_atom}
use Rattle.lucy_clauses.proofs.formulas.Clause.is_narrow.Given as goal

abbrev pub invariant-loop-atom : goal.invariant-loop-atom
invariant-loop-atom l = list_all (is_narrow_atom l.ranges) l.atom-items ≡ list_all (is_narrow_atom l.ranges) (drop l.atom-index l.atom-items)
