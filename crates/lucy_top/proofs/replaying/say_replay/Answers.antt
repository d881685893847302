use Rattle.std.proofs.Common.{rules, refl}
use Rattle.std.specs.Arc.{arc_value}
use Rattle.lucy_plan.specs.Soundness.{IsSound}
use Rattle.lucy_core.specs.Worlds.{opening_world}
use Rattle.lucy_top.proofs.replaying.say_replay.Goals as goal

pub returns : goal.returns
returns c =
    let plan = arc_value c.args.checked in
    let work = c.args.work.now.lists in
    let sound : IsSound plan = search rules in
    let opening = c.opening_is_safe.ensures plan work sound c.requires.work in
    let kept = c.runs_keep_safe.ensures (opening_world plan work) c.args.steps.now in
    record { status_is = refl; text_is = c.in_ok-text.ensures; sound = sound; safe = record { safe = λ n. (kept n opening.0 opening.1).0; facts = λ n. (kept n opening.0 opening.1).1 } }
