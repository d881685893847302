use Rattle.lucy_audit.specs.Checks.{Below, left_of, IsOpened}
use Rattle.lucy_audit.proofs.kept.Kept.compare_openings.Given as goal

abbrev pub invariant-loop-number : goal.invariant-loop-number
invariant-loop-number l = Below l.number (IsOpened (left_of l.self))
