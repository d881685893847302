use Rattle.std.proofs.Common.{rules, ◌≡◌, ◌∙◌, false, map, sym, ap, subst}
use Rattle.std.specs.Prelude.{slice_get, slice_set}
use Rattle.std.specs.Option.{is_some}
use Rattle.std.proofs.lemmas.Result.{err_from_is_err_and}
use Rattle.lucy_calls.specs.declared.steps.Step.TheVariants.{Freeze}
use Rattle.lucy_epochs.specs.Contributions.{Contribution}
use Rattle.lucy_replica.specs.Changing.{contributed}
use Rattle.lucy_replica.specs.Replicas.{Replica}
use Rattle.lucy_replica.specs.declared.events.Event.TheVariants.{Frozen}
use Rattle.lucy_core.specs.Worlds.{Freezing, entry}
use Rattle.lucy_core.specs.Holding.{HasParts}
use Rattle.lucy_core.specs.Views.{course_of, FitsLives}
use Rattle.lucy_core.proofs.HoldingLemmas.{parts_stay, parts_more}
use Rattle.lucy_core.proofs.LifeLemmas.{has_life, same_with, few_still, seated, seat_free, freezes, still_safe, taken_safe}
use Rattle.lucy_core.proofs.worlds.World.freeze.Goals as goal

pub invariant_of-self-in_err-reserve-in-Freezing : goal.invariant_of-self-in_err-reserve-in-Freezing
invariant_of-self-in_err-reserve-in-Freezing c =
    let inside = c.self.inside in
    let k = c.args.number in
    let life = c.index_mut-life.result.now in
    let after = c.reserve.new.self in
    let collect = c.in-Freezing.collect in
    let has = has_life c.args.self.now inside k life c.self.view_is c.requires c.index_mut-life.ensures.value in
    let course = ap course_of c.in-Freezing.is in
    let parts : HasParts inside.lives.items collect = subst (FitsLives inside.lives.items) c.in-Freezing.is c.self.invariant.fits in
    let free : entry (map is_some collect.seats) k ≡ false = search rules in
    let kept = still_safe inside c.self.view_is c.self.invariant (same_with has (Freezing c.in-Freezing.coordinator (map is_some collect.seats)) after course c.reserve.ensures.replica) in
    record {
      safe = kept.0;
      facts = kept.1;
      fits = parts_stay inside.lives.items k life after has.at collect (ap (λ (r : Replica). r.epoch) c.reserve.ensures.replica) free parts;
      few = few_still has after c.self.invariant.few;
    }

pub returns-in_err-reserve-in-Freezing-clause-err : goal.returns-in_err-reserve-in-Freezing-clause-err
returns-in_err-reserve-in-Freezing-clause-err c =
    let inside = c.self.inside in
    let k = c.args.number in
    let life = c.index_mut-life.result.now in
    let after = c.reserve.new.self in
    let collect = c.in-Freezing.collect in
    let has = has_life c.args.self.now inside k life c.self.view_is c.requires c.index_mut-life.ensures.value in
    let course = ap course_of c.in-Freezing.is in
    let p = err_from_is_err_and c.from_residual.result c.from_residual.ensures.1 in
    rw p.1 (same_with has (Freezing c.in-Freezing.coordinator (map is_some collect.seats)) after course c.reserve.ensures.replica)

pub invariant_of-self-in_err-part-in-Freezing : goal.invariant_of-self-in_err-part-in-Freezing
invariant_of-self-in_err-part-in-Freezing c =
    let inside = c.self.inside in
    let k = c.args.number in
    let life = c.index_mut-life.result.now in
    let after = c.reserve.new.self in
    let collect = c.in-Freezing.collect in
    let has = has_life c.args.self.now inside k life c.self.view_is c.requires c.index_mut-life.ensures.value in
    let course = ap course_of c.in-Freezing.is in
    let parts : HasParts inside.lives.items collect = subst (FitsLives inside.lives.items) c.in-Freezing.is c.self.invariant.fits in
    let free : entry (map is_some collect.seats) k ≡ false = search rules in
    let kept = still_safe inside c.self.view_is c.self.invariant (same_with has (Freezing c.in-Freezing.coordinator (map is_some collect.seats)) after course c.reserve.ensures.replica) in
    record {
      safe = kept.0;
      facts = kept.1;
      fits = parts_stay inside.lives.items k life after has.at collect (ap (λ (r : Replica). r.epoch) c.reserve.ensures.replica) free parts;
      few = few_still has after c.self.invariant.few;
    }

pub returns-in_err-part-in-Freezing-clause-err : goal.returns-in_err-part-in-Freezing-clause-err
returns-in_err-part-in-Freezing-clause-err c =
    let inside = c.self.inside in
    let k = c.args.number in
    let life = c.index_mut-life.result.now in
    let after = c.reserve.new.self in
    let collect = c.in-Freezing.collect in
    let has = has_life c.args.self.now inside k life c.self.view_is c.requires c.index_mut-life.ensures.value in
    let course = ap course_of c.in-Freezing.is in
    let p = err_from_is_err_and c.from_residual-in_err-part-in-Freezing.result c.from_residual-in_err-part-in-Freezing.ensures.1 in
    rw p.1 (same_with has (Freezing c.in-Freezing.coordinator (map is_some collect.seats)) after course c.reserve.ensures.replica)

pub put-requires-clause-seat : goal.put-requires-clause-seat
put-requires-clause-seat c =
    let inside = c.self.inside in
    let k = c.args.number in
    let life = c.index_mut-life.result.now in
    let after = c.reserve.new.self in
    let collect = c.in-Freezing.collect in
    let has = has_life c.args.self.now inside k life c.self.view_is c.requires c.index_mut-life.ensures.value in
    let course = ap course_of c.in-Freezing.is in
    let free : entry (map is_some collect.seats) k ≡ false = search rules in
    let part = c.in_ok-part-in-Freezing.part in
    let is : part ≡ contributed after.replica = c.in_ok-part-in-Freezing.ensures in
    let number : part.replica ≡ k = ap (λ (p : Contribution). p.replica) is ∙ ap (λ (r : Replica). r.number) c.reserve.ensures.replica ∙ seated inside c.self.invariant k life has.at in
    let seat = seat_free inside c.self.invariant c.in-Freezing.coordinator collect course k life has.at free in
    ap (slice_get collect.seats) number ∙ seat

pub put-requires-clause-same : goal.put-requires-clause-same
put-requires-clause-same c =
    let inside = c.self.inside in
    let k = c.args.number in
    let life = c.index_mut-life.result.now in
    let after = c.reserve.new.self in
    let collect = c.in-Freezing.collect in
    let has = has_life c.args.self.now inside k life c.self.view_is c.requires c.index_mut-life.ensures.value in
    let course = ap course_of c.in-Freezing.is in
    let parts : HasParts inside.lives.items collect = subst (FitsLives inside.lives.items) c.in-Freezing.is c.self.invariant.fits in
    let part = c.in_ok-part-in-Freezing.part in
    let is : part ≡ contributed after.replica = c.in_ok-part-in-Freezing.ensures in
    let number : part.replica ≡ k = ap (λ (p : Contribution). p.replica) is ∙ ap (λ (r : Replica). r.number) c.reserve.ensures.replica ∙ seated inside c.self.invariant k life has.at in
    ap (λ (p : Contribution). p.epoch) is ∙ ap (λ (r : Replica). r.epoch) c.reserve.ensures.replica ∙ parts.of_one k life has.at

pub invariant_of-self-in-Freezing : goal.invariant_of-self-in-Freezing
invariant_of-self-in-Freezing c =
    let inside = c.self.inside in
    let k = c.args.number in
    let life = c.index_mut-life.result.now in
    let after = c.reserve.new.self in
    let collect = c.in-Freezing.collect in
    let has = has_life c.args.self.now inside k life c.self.view_is c.requires c.index_mut-life.ensures.value in
    let course = ap course_of c.in-Freezing.is in
    let parts : HasParts inside.lives.items collect = subst (FitsLives inside.lives.items) c.in-Freezing.is c.self.invariant.fits in
    let free : entry (map is_some collect.seats) k ≡ false = search rules in
    let part = c.in_ok-part-in-Freezing.part in
    let is : part ≡ contributed after.replica = c.in_ok-part-in-Freezing.ensures in
    let number : part.replica ≡ k = ap (λ (p : Contribution). p.replica) is ∙ ap (λ (r : Replica). r.number) c.reserve.ensures.replica ∙ seated inside c.self.invariant k life has.at in
    let seat = seat_free inside c.self.invariant c.in-Freezing.coordinator collect course k life has.at free in
    let done = freezes has c.in-Freezing.coordinator collect c.put.new.self after part course c.reserve.ensures.replica seat number c.put.ensures in
    let kept = taken_safe c.steps_keep_safe.ensures c.args.self.now _ inside (Freeze k) Frozen c.self.view_is c.self.invariant done in
    record {
      safe = kept.0;
      facts = kept.1;
      fits = subst (HasParts (slice_set inside.lives.items k after)) (sym c.put.ensures) (parts_more inside.lives.items k life after has.at collect part c.reserve.ensures.replica seat is number c.in_ok-reserve-in-Freezing.ensures.ok parts);
      few = few_still has after c.self.invariant.few;
    }

pub returns-in_ok-part-in-Freezing-clause-step : goal.returns-in_ok-part-in-Freezing-clause-step
returns-in_ok-part-in-Freezing-clause-step c =
    let inside = c.self.inside in
    let k = c.args.number in
    let life = c.index_mut-life.result.now in
    let after = c.reserve.new.self in
    let collect = c.in-Freezing.collect in
    let has = has_life c.args.self.now inside k life c.self.view_is c.requires c.index_mut-life.ensures.value in
    let course = ap course_of c.in-Freezing.is in
    let free : entry (map is_some collect.seats) k ≡ false = search rules in
    let part = c.in_ok-part-in-Freezing.part in
    let is : part ≡ contributed after.replica = c.in_ok-part-in-Freezing.ensures in
    let number : part.replica ≡ k = ap (λ (p : Contribution). p.replica) is ∙ ap (λ (r : Replica). r.number) c.reserve.ensures.replica ∙ seated inside c.self.invariant k life has.at in
    let seat = seat_free inside c.self.invariant c.in-Freezing.coordinator collect course k life has.at free in
    freezes has c.in-Freezing.coordinator collect c.put.new.self after part course c.reserve.ensures.replica seat number c.put.ensures
