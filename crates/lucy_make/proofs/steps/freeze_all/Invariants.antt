use Rattle.std.proofs.Common.{◌≡◌, ◌-◌}
use Rattle.lucy_make.specs.Steps.{freezes}
use Rattle.lucy_make.proofs.steps.freeze_all.Given as goal

abbrev pub invariant-loop-replica : goal.invariant-loop-replica
invariant-loop-replica l = freezes l.replicas (l.replicas - l.replica) l.replica (l.script, l.chaos) ≡ freezes l.replicas l.replicas 0 (l.fn.script, l.fn.chaos)
