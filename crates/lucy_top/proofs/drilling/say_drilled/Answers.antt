use Rattle.std.proofs.Common.{rules, refl, ◌≡◌, length}
use Rattle.std.specs.Arc.{arc_value}
use Rattle.lucy_plan.specs.Soundness.{IsSound}
use Rattle.lucy_top.specs.Drills.{drill_steps}
use Rattle.lucy_top.proofs.DrillLemmas.{drilled_so, drill_safe}
use Rattle.lucy_top.proofs.drilling.say_drilled.Goals as goal

pub returns : goal.returns
returns c =
    let plan = arc_value c.args.checked in
    let sound : IsSound plan = search rules in
    let known : c.deref-2.result.now ≡ plan = search rules in
    let seen : c.deref-3.result.now ≡ plan = search rules in
    let steps : c.as_slice.result.now ≡ drill_steps c.args.seed = search rules in
    let many : c.len.result ≡ length c.as_slice.result.now = search rules in
    let work = c.in_ok-work.work.lists in
    record {
      status_is = refl;
      text_is = drilled_so plan c.deref-2.result.now c.deref-3.result.now c.args.seed c.args.size c.len.result work c.as_slice.result.now c.in_ok-world.world _ c.in_ok-text.text.items
          known seen c.in_ok-work.ensures.value steps many c.in_ok-world.ensures.value c.count-drill.ensures c.in_ok-text.ensures;
      sound = sound;
      safe = drill_safe c.opening_is_safe.ensures c.runs_keep_safe.ensures plan c.deref-2.result.now c.args.seed work known c.in_ok-work.ensures.value sound c.in_ok-work.ensures.fits;
    }
