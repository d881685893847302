use Rattle.std.proofs.Common.{◌≡◌, ◌++◌, ◌-◌}
use Rattle.lucy_core.specs.Alone.{freezes}
use Rattle.lucy_core.proofs.one_thread.push_freezes.Given as goal

abbrev pub invariant-loop-number : goal.invariant-loop-number
invariant-loop-number l = l.steps.items ++ freezes l.number (l.replicas - l.number) ≡ l.fn.steps.items ++ freezes 0 l.replicas
