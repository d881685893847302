use Rattle.std.proofs.Common.{rules, ◌<◌, ◌≤◌, ◌≡◌, ◌∙◌, ◌+◌, ◌-◌, length, ap, arith}
use Rattle.lucy_core.specs.Worlds.{World}
use Rattle.lucy_core.specs.Alone.{after_call}
use Rattle.lucy_core.proofs.Working.{call_count, calls_more}
use Rattle.lucy_core.proofs.one_thread.call_all.Goals as goal

pub loop-preserved : goal.loop-preserved
loop-preserved c =
    let below : c.loop.counter < c.args.calls = search rules in
    let is : c.call_next.new.world ≡ after_call c.loop.world c.args.number = search rules in
    record {
      left = calls_more c.loop.world c.call_next.new.world c.args.number c.args.calls c.loop.counter below is ∙ c.loop.invariant.left;
      many = ap (λ (w : World). length w.replicas) is ∙ call_count c.loop.world c.args.number ∙ c.loop.invariant.many;
    }
