use Rattle.std.proofs.Common.{◌≡◌, ◌∙◌, length, rules, refl, ap, Some}
use Rattle.std.specs.Prelude.{slice_get}
use Rattle.std.proofs.lemmas.Option.{slice_get_read}
use Rattle.std.proofs.lemmas.Result.{err_from_is_err_and}
use Rattle.lucy_calls.specs.declared.steps.Step.TheVariants.{Deliver}
use Rattle.lucy_replica.specs.Replicas.{Replica}
use Rattle.lucy_core.proofs.LifeLemmas.{has_life, unchanged, fits_still, few_still, delivers, received_epoch, still_safe, taken_safe}
use Rattle.lucy_core.proofs.worlds.World.hand.Goals as goal

pub invariant_of-self : goal.invariant_of-self
invariant_of-self c =
    let has = has_life c.args.self.now c.self.inside c.args.to c.index_mut-life.result.now c.self.view_is c.requires.below c.index_mut-life.ensures.value in
    let kept = still_safe c.self.inside c.self.view_is c.self.invariant (unchanged has c.receive.new.self c.in_err-answer.ensures.err) in
    record {
      safe = kept.0;
      facts = kept.1;
      fits = fits_still has c.receive.new.self (ap (λ (r : Replica). r.epoch) c.in_err-answer.ensures.err) c.requires.free c.self.invariant.fits;
      few = few_still has c.receive.new.self c.self.invariant.few;
    }

pub returns-in_err-answer-clause-err : goal.returns-in_err-answer-clause-err
returns-in_err-answer-clause-err c =
    let has = has_life c.args.self.now c.self.inside c.args.to c.index_mut-life.result.now c.self.view_is c.requires.below c.index_mut-life.ensures.value in
    let p = err_from_is_err_and c.from_residual.result c.from_residual.ensures.1 in
    rw p.1 (unchanged has c.receive.new.self c.in_err-answer.ensures.err)

pub invariant_of-self-2 : goal.invariant_of-self-2
invariant_of-self-2 c =
    let life = c.index_mut-life.result.now in
    let has = has_life c.args.self.now c.self.inside c.args.to life c.self.view_is c.requires.below c.index_mut-life.ensures.value in
    let which : slice_get c.self.inside.packets.items c.args.packet ≡ Some c.in-Some.packet.now =
    rw (← c.deref.ensures.value) (slice_get_read c.deref.result.now (length c.deref.result.now) c.args.packet c.in-Some.packet.now refl (search rules) c.in-Some.ensures.lookup.1) in
    let done = delivers has c.args.packet c.in-Some.packet.now c.receive.new.self c.in_ok-answer.answer c.received.result c.requires.free which c.in_ok-answer.ensures.step c.received.ensures in
    let kept = taken_safe c.steps_keep_safe.ensures c.args.self.now _ c.self.inside (Deliver c.args.to c.args.packet) c.received.result c.self.view_is c.self.invariant done in
    record {
      safe = kept.0;
      facts = kept.1;
      fits = fits_still has c.receive.new.self (ap (λ (r : Replica). r.epoch) c.in_ok-answer.ensures.step.1 ∙ received_epoch c.in-Some.packet.now life.replica) c.requires.free c.self.invariant.fits;
      few = few_still has c.receive.new.self c.self.invariant.few;
    }

pub returns-clause-step : goal.returns-clause-step
returns-clause-step c =
    let has = has_life c.args.self.now c.self.inside c.args.to c.index_mut-life.result.now c.self.view_is c.requires.below c.index_mut-life.ensures.value in
    let which : slice_get c.self.inside.packets.items c.args.packet ≡ Some c.in-Some.packet.now =
    rw (← c.deref.ensures.value) (slice_get_read c.deref.result.now (length c.deref.result.now) c.args.packet c.in-Some.packet.now refl (search rules) c.in-Some.ensures.lookup.1) in
    delivers has c.args.packet c.in-Some.packet.now c.receive.new.self c.in_ok-answer.answer c.received.result c.requires.free which c.in_ok-answer.ensures.step c.received.ensures
