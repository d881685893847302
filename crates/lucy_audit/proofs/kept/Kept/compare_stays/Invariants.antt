use Rattle.lucy_audit.specs.Checks.{Below, left_of, IsStayCounted}
use Rattle.lucy_audit.proofs.kept.Kept.compare_stays.Given as goal

abbrev pub invariant-loop-number : goal.invariant-loop-number
invariant-loop-number l = Below l.number (IsStayCounted (left_of l.self) l.place)
