use Rattle.std.proofs.Common.{rules, ◌≡◌, true, length, refl, sym, ap, subst, arith}
use Rattle.std.specs.Prelude.{Option}
use Rattle.std.specs.List.{list_all}
use Rattle.std.specs.Option.{is_some}
use Rattle.std.specs.Arc.{arc_value}
use Rattle.std.proofs.lemmas.List.{length-map}
use Rattle.std.proofs.lemmas.Option.{slice_get_read}
use Rattle.lucy_calls.specs.declared.steps.Step.TheVariants.{OpenEpoch}
use Rattle.lucy_epochs.specs.Contributions.{Contribution}
use Rattle.lucy_epochs.specs.Sharing.{ruling_of}
use Rattle.lucy_core.specs.Holding.{HasParts, IsNextOf}
use Rattle.lucy_core.specs.Views.{course_of, FitsLives}
use Rattle.lucy_core.proofs.HoldingLemmas.{grants_begin}
use Rattle.lucy_core.proofs.LifeLemmas.{coordinator_below, seats_many, wish_fits, plan_covered, number_last, ruling_next, waits_open, opens, taken_safe}
use Rattle.lucy_core.proofs.worlds.World.open.Goals as goal

pub returns-then-not-is_full-clause-step : goal.returns-then-not-is_full-clause-step
returns-then-not-is_full-clause-step c =
    let w = c.args.self.now in
    let inside = c.self.inside in
    let n = c.in-Freezing.coordinator in
    let collect = c.in-Freezing.collect in
    let course = ap course_of c.in-Freezing.is in
    waits_open w inside n collect c.self.view_is course (sym c.if-not-is_full.ensures)

pub rule-requires-clause-fits : goal.rule-requires-clause-fits
rule-requires-clause-fits c =
    let w = c.args.self.now in
    let inside = c.self.inside in
    let n = c.in-Freezing.coordinator in
    let collect = c.in-Freezing.collect in
    let course = ap course_of c.in-Freezing.is in
    let parts : HasParts inside.lives.items collect = subst (FitsLives inside.lives.items) c.in-Freezing.is c.self.invariant.fits in
    let life = c.index.result.now in
    let at = slice_get_read inside.lives.items (length inside.lives.items) n life refl (coordinator_below inside c.self.invariant n collect course) c.index.ensures in
    let fit = wish_fits inside c.self.invariant n collect course parts life at _ c.wish-wanted.result c.wish-wanted.ensures in
    fit

pub rule-requires-clause-covered : goal.rule-requires-clause-covered
rule-requires-clause-covered c =
    let w = c.args.self.now in
    let inside = c.self.inside in
    let n = c.in-Freezing.coordinator in
    let collect = c.in-Freezing.collect in
    let course = ap course_of c.in-Freezing.is in
    let parts : HasParts inside.lives.items collect = subst (FitsLives inside.lives.items) c.in-Freezing.is c.self.invariant.fits in
    let life = c.index.result.now in
    let at = slice_get_read inside.lives.items (length inside.lives.items) n life refl (coordinator_below inside c.self.invariant n collect course) c.index.ensures in
    plan_covered inside c.self.invariant n collect course parts life at

pub rule-requires-clause-number : goal.rule-requires-clause-number
rule-requires-clause-number c =
    let w = c.args.self.now in
    let inside = c.self.inside in
    let n = c.in-Freezing.coordinator in
    let collect = c.in-Freezing.collect in
    let course = ap course_of c.in-Freezing.is in
    let parts : HasParts inside.lives.items collect = subst (FitsLives inside.lives.items) c.in-Freezing.is c.self.invariant.fits in
    let life = c.index.result.now in
    let at = slice_get_read inside.lives.items (length inside.lives.items) n life refl (coordinator_below inside c.self.invariant n collect course) c.index.ensures in
    let last = number_last inside c.self.invariant n collect course parts life at in
    let many = ap length c.list-records.ensures.records in
    let long = length-map c.list-records.result.now arc_value in
    omega (arith, last, many, long)

pub note-requires : goal.note-requires
note-requires c =
    let w = c.args.self.now in
    let inside = c.self.inside in
    let n = c.in-Freezing.coordinator in
    let collect = c.in-Freezing.collect in
    let course = ap course_of c.in-Freezing.is in
    let parts : HasParts inside.lives.items collect = subst (FitsLives inside.lives.items) c.in-Freezing.is c.self.invariant.fits in
    let life = c.index.result.now in
    let at = slice_get_read inside.lives.items (length inside.lives.items) n life refl (coordinator_below inside c.self.invariant n collect course) c.index.ensures in
    subst (IsNextOf inside.table.records) (sym c.in_ok-ruling-in-Freezing.ensures) (ruling_next inside c.self.invariant n collect course parts life at _)

pub invariant_of-self-in-Freezing : goal.invariant_of-self-in-Freezing
invariant_of-self-in-Freezing c =
    let w = c.args.self.now in
    let inside = c.self.inside in
    let n = c.in-Freezing.coordinator in
    let collect = c.in-Freezing.collect in
    let course = ap course_of c.in-Freezing.is in
    let parts : HasParts inside.lives.items collect = subst (FitsLives inside.lives.items) c.in-Freezing.is c.self.invariant.fits in
    let life = c.index.result.now in
    let at = slice_get_read inside.lives.items (length inside.lives.items) n life refl (coordinator_below inside c.self.invariant n collect course) c.index.ensures in
    let long = seats_many inside c.self.invariant n collect course in
    let many : c.len.result ≡ length inside.lives.items = search rules in
    let all : list_all (λ (seat : Option Contribution). is_some seat) collect.seats ≡ true = search rules in
    let done = opens w inside n collect life (ruling_of c.in_ok-ruling-in-Freezing.ruling) _ c.len.result c.ruled-event.result c.note.new.table.records c.in_ok-grants-in-Freezing.grants.items
    c.self.view_is course at long many all parts c.wish-wanted.ensures c.in_ok-ruling-in-Freezing.ensures c.ruled-event.ensures c.in_ok-note-in-Freezing.ensures.ok c.in_ok-grants-in-Freezing.ensures in
    let kept = taken_safe c.steps_keep_safe.ensures w _ inside OpenEpoch c.ruled-event.result c.self.view_is c.self.invariant done in
    record {
      safe = kept.0;
      facts = kept.1;
      fits = rw c.in_ok-grants-in-Freezing.ensures (grants_begin inside.lives.items collect (ruling_of c.in_ok-ruling-in-Freezing.ruling) c.len.result long all parts);
      few = c.self.invariant.few;
    }

pub returns-in_ok-note-in-Freezing-clause-step : goal.returns-in_ok-note-in-Freezing-clause-step
returns-in_ok-note-in-Freezing-clause-step c =
    let w = c.args.self.now in
    let inside = c.self.inside in
    let n = c.in-Freezing.coordinator in
    let collect = c.in-Freezing.collect in
    let course = ap course_of c.in-Freezing.is in
    let parts : HasParts inside.lives.items collect = subst (FitsLives inside.lives.items) c.in-Freezing.is c.self.invariant.fits in
    let life = c.index.result.now in
    let at = slice_get_read inside.lives.items (length inside.lives.items) n life refl (coordinator_below inside c.self.invariant n collect course) c.index.ensures in
    let long = seats_many inside c.self.invariant n collect course in
    let many : c.len.result ≡ length inside.lives.items = search rules in
    let all : list_all (λ (seat : Option Contribution). is_some seat) collect.seats ≡ true = search rules in
    let done = opens w inside n collect life (ruling_of c.in_ok-ruling-in-Freezing.ruling) _ c.len.result c.ruled-event.result c.note.new.table.records c.in_ok-grants-in-Freezing.grants.items
    c.self.view_is course at long many all parts c.wish-wanted.ensures c.in_ok-ruling-in-Freezing.ensures c.ruled-event.ensures c.in_ok-note-in-Freezing.ensures.ok c.in_ok-grants-in-Freezing.ensures in
    done
