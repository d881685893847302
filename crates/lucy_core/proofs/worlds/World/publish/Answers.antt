use Rattle.std.proofs.Common.{rules, refl}
use Rattle.std.specs.Prelude.{slice_get}
use Rattle.lucy_calls.specs.declared.steps.Step.TheVariants.{Send}
use Rattle.lucy_replica.specs.declared.events.Event.TheVariants.{Sent}
use Rattle.lucy_core.specs.Steps.{send_row}
use Rattle.lucy_core.proofs.LifeLemmas.{has_life, sends, free_safe}
use Rattle.lucy_core.proofs.worlds.World.publish.Goals as goal

pub invariant_of-self-2 : goal.invariant_of-self-2
invariant_of-self-2 c =
    let w = c.args.self.now in
    let has = has_life w c.self.inside c.args.number c.index.result.now c.self.view_is c.requires.below (search rules) in
    let done = sends has c.push.new.self.items c.in_ok-packet.packet c.len-number.result c.in_ok-packet.ensures (search rules) c.in_ok-push.ensures.items in
    let kept = free_safe c.steps_keep_safe.ensures w _ c.self.inside c.args.number (Send c.args.number) (send_row w (slice_get w.replicas c.args.number)) (Sent c.len-number.result) c.self.view_is c.self.invariant c.requires.free refl done in
    record { safe = kept.0; facts = kept.1; fits = c.self.invariant.fits; few = c.self.invariant.few }

pub returns-clause-step : goal.returns-clause-step
returns-clause-step c =
    let has = has_life c.args.self.now c.self.inside c.args.number c.index.result.now c.self.view_is c.requires.below (search rules) in
    sends has c.push.new.self.items c.in_ok-packet.packet c.len-number.result c.in_ok-packet.ensures (search rules) c.in_ok-push.ensures.items
