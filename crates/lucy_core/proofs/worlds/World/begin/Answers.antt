use Rattle.std.proofs.Common.{rules, ◌≡◌, ◌∙◌, false, length, sym, ap, subst}
use Rattle.std.specs.Arc.{arc_value}
use Rattle.std.specs.Option.{is_none}
use Rattle.lucy_calls.specs.declared.steps.Step.TheVariants.{Begin}
use Rattle.lucy_replica.specs.declared.events.Event.TheVariants.{Begun}
use Rattle.lucy_core.specs.Holding.{HasParts}
use Rattle.lucy_core.specs.Views.{course_of}
use Rattle.lucy_core.proofs.HoldingLemmas.{parts_begin}
use Rattle.lucy_core.proofs.LifeLemmas.{has_life, marked, begins, parts_empty, taken_safe}
use Rattle.lucy_core.proofs.worlds.World.begin.Goals as goal

pub invariant_of-self : goal.invariant_of-self
invariant_of-self c =
    let w = c.args.self.now in
    let inside = c.self.inside in
    let life = c.index-life.result.now in
    let has = has_life w inside c.args.number life c.self.view_is c.requires c.index-life.ensures in
    let course = ap course_of c.in-Idle.is in
    let none : is_none c.mark.result ≡ false = search rules in
    let want = marked _ c.mark.result life.replica.wanted c.mark.ensures none in
    let many : c.len.result ≡ length inside.lives.items = search rules in
    let done = begins has c.in_ok-collect.collect (arc_value c.in_ok-epoch.epoch) c.len.result want.0 course c.in_ok-collect.ensures many want.1 in
    let kept = taken_safe c.steps_keep_safe.ensures w _ inside (Begin c.args.number) Begun c.self.view_is c.self.invariant done in
    let epoch_is : arc_value c.in_ok-epoch.epoch ≡ life.replica.epoch = search rules in
    record {
      safe = kept.0;
      facts = kept.1;
      fits = subst (HasParts inside.lives.items) (sym c.in_ok-collect.ensures)
          (parts_begin inside.lives.items (arc_value c.in_ok-epoch.epoch) c.len.result (λ n other h. parts_empty inside c.self.invariant c.args.number life course has.at n other h ∙ sym epoch_is));
      few = c.self.invariant.few;
    }

pub returns-clause-step : goal.returns-clause-step
returns-clause-step c =
    let w = c.args.self.now in
    let inside = c.self.inside in
    let life = c.index-life.result.now in
    let has = has_life w inside c.args.number life c.self.view_is c.requires c.index-life.ensures in
    let none : is_none c.mark.result ≡ false = search rules in
    let want = marked _ c.mark.result life.replica.wanted c.mark.ensures none in
    let many : c.len.result ≡ length inside.lives.items = search rules in
    begins has c.in_ok-collect.collect (arc_value c.in_ok-epoch.epoch) c.len.result want.0 (ap course_of c.in-Idle.is) c.in_ok-collect.ensures many want.1
