use Rattle.std.proofs.Common.{◌≡◌, ◌-◌, length}
use Rattle.lucy_core.specs.Alone.{after_calls}
use Rattle.lucy_core.proofs.one_thread.call_all.Given as goal

abbrev pub invariant-loop : goal.invariant-loop
invariant-loop l = record {
  left : after_calls (l.calls - l.counter) l.world l.number ≡ after_calls l.calls l.fn.world l.number;
  many : length l.world.replicas ≡ l.replicas;
}
