use Rattle.std.proofs.Common.{◌≡◌, ◌-◌}
use Rattle.lucy_make.specs.Steps.{thaws}
use Rattle.lucy_make.proofs.steps.thaw_all.Given as goal

abbrev pub invariant-loop-replica : goal.invariant-loop-replica
invariant-loop-replica l = thaws (l.replicas - l.replica) l.replica l.script ≡ thaws l.replicas 0 l.fn.script
