use Rattle.std.proofs.Common.{◌≡◌, ◌++◌}
use Rattle.lucy_core.specs.Alone.{thaws}
use Rattle.lucy_core.proofs.one_thread.push_thaws.Given as goal

abbrev pub invariant-loop-left : goal.invariant-loop-left
invariant-loop-left l = l.steps.items ++ thaws l.left ≡ l.fn.steps.items ++ thaws l.replicas

abbrev pub decreases-loop-left : goal.decreases-loop-left
decreases-loop-left l = l.left
