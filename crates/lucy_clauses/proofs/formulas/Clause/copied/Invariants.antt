use Rattle.std.proofs.Common.{◌≡◌, take}
use Rattle.lucy_clauses.proofs.formulas.Clause.copied.Given as goal

abbrev pub invariant-loop-atom : goal.invariant-loop-atom
invariant-loop-atom l = l.atoms ≡ take l.atom-index l.atom-items
