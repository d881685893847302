use Rattle.lucy_audit.specs.Checks.{Below, left_of, IsListedAt}
use Rattle.lucy_audit.proofs.kept.Kept.compare_table.Given as goal

abbrev pub invariant-loop-number : goal.invariant-loop-number
invariant-loop-number l = Below l.number (IsListedAt (left_of l.self))
