use Rattle.lucy_audit.specs.Checks.{Below, left_of, IsReachAccepted}
use Rattle.lucy_audit.proofs.kept.Kept.compare_tree.Given as goal

abbrev pub invariant-loop-owner : goal.invariant-loop-owner
invariant-loop-owner l = Below l.owner (IsReachAccepted (left_of l.self) l.number l.expr.tree)
