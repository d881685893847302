use Rattle.std.proofs.Common.{◌≡◌, drop, length}
use Rattle.lucy_core.specs.Alone.{after_lists}
use Rattle.lucy_core.proofs.one_thread.call_lists.Given as goal

abbrev pub invariant-loop-number : goal.invariant-loop-number
invariant-loop-number l = record {
  left : after_lists (drop l.number l.work) l.world l.number ≡ after_lists l.work l.fn.world 0;
  many : length l.world.replicas ≡ length l.work;
}
