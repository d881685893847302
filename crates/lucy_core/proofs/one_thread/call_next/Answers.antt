use Rattle.std.proofs.Common.{rules, sym, ◌∙◌, ◌≡◌}
use Rattle.lucy_core.specs.Alone.{whole_change}
use Rattle.lucy_core.proofs.Working.{change_taken, called_free, called_wanting}
use Rattle.lucy_core.proofs.one_thread.call_next.Goals as goal

pub run-requires : goal.run-requires
run-requires c =
    let are : c.deref.result.now ≡ whole_change c.args.replicas c.args.number = search rules in
    change_taken c.args.world.now c.step.new.self c.in_ok-event.event c.args.number c.in_ok-event.ensures.step c.deref.result.now c.args.replicas c.requires.many c.requires.below are
