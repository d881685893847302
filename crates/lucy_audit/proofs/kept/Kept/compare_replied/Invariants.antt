use Rattle.lucy_audit.specs.Checks.{Below, left_of, IsReplyCounted}
use Rattle.lucy_audit.proofs.kept.Kept.compare_replied.Given as goal

abbrev pub invariant-loop-reply : goal.invariant-loop-reply
invariant-loop-reply l = Below l.reply (IsReplyCounted (left_of l.self) l.place)
