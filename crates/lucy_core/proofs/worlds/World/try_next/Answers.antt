use Rattle.std.proofs.Common.{refl, ap, ◌∙◌}
use Rattle.std.specs.Prelude.{slice_get}
use Rattle.std.proofs.lemmas.Result.{err_from_is_err_and}
use Rattle.lucy_calls.specs.declared.steps.Step.TheVariants.{Submit}
use Rattle.lucy_replica.specs.Replicas.{Replica}
use Rattle.lucy_core.specs.Steps.{submit_row}
use Rattle.lucy_core.proofs.LifeLemmas.{has_life, unchanged, fits_still, few_still, submits, submitted_epoch, still_safe, free_safe}
use Rattle.lucy_core.proofs.worlds.World.try_next.Goals as goal

pub invariant_of-self : goal.invariant_of-self
invariant_of-self c =
    let life = c.index_mut-life.result.now in
    let has = has_life c.args.self.now c.self.inside c.args.number life c.self.view_is c.requires.below c.index_mut-life.ensures.value in
    let kept = still_safe c.self.inside c.self.view_is c.self.invariant (unchanged has c.submit.new.self c.in_err-answer.ensures.err) in
    record {
      safe = kept.0;
      facts = kept.1;
      fits = fits_still has c.submit.new.self (ap (λ (r : Replica). r.epoch) c.in_err-answer.ensures.err) c.requires.free c.self.invariant.fits;
      few = few_still has c.submit.new.self c.self.invariant.few;
    }

pub returns-in_err-answer-clause-err : goal.returns-in_err-answer-clause-err
returns-in_err-answer-clause-err c =
    let has = has_life c.args.self.now c.self.inside c.args.number c.index_mut-life.result.now c.self.view_is c.requires.below c.index_mut-life.ensures.value in
    let p = err_from_is_err_and c.from_residual.result c.from_residual.ensures.1 in
    rw p.1 (unchanged has c.submit.new.self c.in_err-answer.ensures.err)

pub invariant_of-self-2 : goal.invariant_of-self-2
invariant_of-self-2 c =
    let w = c.args.self.now in
    let life = c.index_mut-life.result.now in
    let has = has_life w c.self.inside c.args.number life c.self.view_is c.requires.below c.index_mut-life.ensures.value in
    let done = submits has c.submit.new.self c.in_ok-answer.answer c.submitted.result c.in_ok-answer.ensures.step c.submitted.ensures in
    let kept = free_safe c.steps_keep_safe.ensures w _ c.self.inside c.args.number (Submit c.args.number) (submit_row w c.args.number (slice_get w.replicas c.args.number)) c.submitted.result c.self.view_is c.self.invariant c.requires.free refl done in
    record {
      safe = kept.0;
      facts = kept.1;
      fits = fits_still has c.submit.new.self (ap (λ (r : Replica). r.epoch) c.in_ok-answer.ensures.step.1 ∙ submitted_epoch life.replica) c.requires.free c.self.invariant.fits;
      few = few_still has c.submit.new.self c.self.invariant.few;
    }

pub returns-clause-step : goal.returns-clause-step
returns-clause-step c =
    let has = has_life c.args.self.now c.self.inside c.args.number c.index_mut-life.result.now c.self.view_is c.requires.below c.index_mut-life.ensures.value in
    submits has c.submit.new.self c.in_ok-answer.answer c.submitted.result c.in_ok-answer.ensures.step c.submitted.ensures
