use Rattle.lucy_audit.specs.Checks.{Below, left_of, HasSameRecord}
use Rattle.lucy_audit.proofs.kept.Kept.compare_records.Given as goal

abbrev pub invariant-loop-number : goal.invariant-loop-number
invariant-loop-number l = Below l.number (HasSameRecord (left_of l.self) l.place)
