use Rattle.std.proofs.Common.{◌≡◌, drop}
use Rattle.lucy_clauses.specs.Formulas.{names_below}
use Rattle.lucy_solver.proofs.testing.names_below.Given as goal

abbrev pub invariant-loop-part : goal.invariant-loop-part
invariant-loop-part l = names_below l.count l.parts ≡ names_below l.count (drop l.part-index l.parts)
