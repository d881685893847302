use Rattle.std.proofs.Common.{rules, ◌≡◌, ◌∙◌, true, false, List, map, length, refl, sym, ap, subst, arith}
use Rattle.std.specs.Prelude.{Option, Some, None, slice_get, slice_set}
use Rattle.std.specs.List.{list_any}
use Rattle.std.specs.Option.{is_some}
use Rattle.std.proofs.lemmas.Option.{slice_get_read}
use Rattle.lucy_calls.specs.declared.steps.Step.TheVariants.{Thaw}
use Rattle.lucy_epochs.specs.Rulings.{Ruling}
use Rattle.lucy_epochs.specs.Sharing.{ruling_of}
use Rattle.lucy_replica.specs.declared.events.Event.TheVariants.{Free}
use Rattle.lucy_core.specs.Worlds.{Idle, Decided}
use Rattle.lucy_core.specs.Holding.{HasGrants}
use Rattle.lucy_core.specs.Views.{course_of, FitsLives}
use Rattle.lucy_core.proofs.HoldingLemmas.{entry_at, set_same, grants_less, still_on, still_off}
use Rattle.lucy_core.proofs.LifeLemmas.{has_life, lives_below, few_still, grants_many, grant_suits, frees, thaws, taken_safe}
use Rattle.lucy_core.proofs.worlds.World.thaw.Goals as goal

pub invariant_of-self-in_default : goal.invariant_of-self-in_default
invariant_of-self-in_default c =
    let w = c.args.self.now in
    let inside = c.self.inside in
    let k = c.args.number in
    let n = c.in-Decided.coordinator in
    let ruling = ruling_of c.in-Decided.ruling in
    let grants = c.in-Decided.grants.items in
    let course = ap course_of c.in-Decided.is in
    let given : HasGrants inside.lives.items ruling grants = subst (FitsLives inside.lives.items) c.in-Decided.is c.self.invariant.fits in
    let below = lives_below w inside k c.self.view_is c.requires in
    let seat = slice_get_read grants (length grants) k c.index_mut.result.now refl (omega (arith, below, grants_many inside c.self.invariant n ruling grants course)) c.index_mut.ensures.value in
    let free : slice_get grants k ≡ Some None = seat ∙ ap (λ (s : Option Ruling). Some s) (sym c.take.ensures.value ∙ c.in_default.is) in
    let same = set_same grants k None free in
    let done = frees w inside k n ruling grants (slice_set grants k None) c.self.view_is course free same in
    let kept = taken_safe c.steps_keep_safe.ensures w _ inside (Thaw k) Free c.self.view_is c.self.invariant done in
    rw c.take.ensures.after (record { safe = kept.0; facts = kept.1; fits = subst (HasGrants inside.lives.items ruling) (sym same) given; few = c.self.invariant.few })

pub returns-in_default : goal.returns-in_default
returns-in_default c =
    let w = c.args.self.now in
    let inside = c.self.inside in
    let k = c.args.number in
    let n = c.in-Decided.coordinator in
    let ruling = ruling_of c.in-Decided.ruling in
    let grants = c.in-Decided.grants.items in
    let course = ap course_of c.in-Decided.is in
    let given : HasGrants inside.lives.items ruling grants = subst (FitsLives inside.lives.items) c.in-Decided.is c.self.invariant.fits in
    let below = lives_below w inside k c.self.view_is c.requires in
    let seat = slice_get_read grants (length grants) k c.index_mut.result.now refl (omega (arith, below, grants_many inside c.self.invariant n ruling grants course)) c.index_mut.ensures.value in
    let free : slice_get grants k ≡ Some None = seat ∙ ap (λ (s : Option Ruling). Some s) (sym c.take.ensures.value ∙ c.in_default.is) in
    let same = set_same grants k None free in
    let done = frees w inside k n ruling grants (slice_set grants k None) c.self.view_is course free same in
    rw c.take.ensures.after done

pub adopt-answer-requires-clause-room : goal.adopt-answer-requires-clause-room
adopt-answer-requires-clause-room c =
    let w = c.args.self.now in
    let inside = c.self.inside in
    let k = c.args.number in
    let n = c.in-Decided.coordinator in
    let ruling = ruling_of c.in-Decided.ruling in
    let grants = c.in-Decided.grants.items in
    let course = ap course_of c.in-Decided.is in
    let given : HasGrants inside.lives.items ruling grants = subst (FitsLives inside.lives.items) c.in-Decided.is c.self.invariant.fits in
    let below = lives_below w inside k c.self.view_is c.requires in
    let seat = slice_get_read grants (length grants) k c.index_mut.result.now refl (omega (arith, below, grants_many inside c.self.invariant n ruling grants course)) c.index_mut.ensures.value in
    let life = c.index_mut-in-Decided.result.now in
    let grant = c.in-Some.grant in
    let has = has_life w inside k life c.self.view_is c.requires c.index_mut-in-Decided.ensures.value in
    let here : slice_get grants k ≡ Some (Some grant) = seat ∙ ap (λ (s : Option Ruling). Some s) (sym c.take.ensures.value ∙ c.in-Some.is) in
    given.reserved k life grant has.at here

pub adopt-answer-requires-clause-suits : goal.adopt-answer-requires-clause-suits
adopt-answer-requires-clause-suits c =
    let w = c.args.self.now in
    let inside = c.self.inside in
    let k = c.args.number in
    let n = c.in-Decided.coordinator in
    let ruling = ruling_of c.in-Decided.ruling in
    let grants = c.in-Decided.grants.items in
    let course = ap course_of c.in-Decided.is in
    let given : HasGrants inside.lives.items ruling grants = subst (FitsLives inside.lives.items) c.in-Decided.is c.self.invariant.fits in
    let below = lives_below w inside k c.self.view_is c.requires in
    let seat = slice_get_read grants (length grants) k c.index_mut.result.now refl (omega (arith, below, grants_many inside c.self.invariant n ruling grants course)) c.index_mut.ensures.value in
    let life = c.index_mut-in-Decided.result.now in
    let grant = c.in-Some.grant in
    let has = has_life w inside k life c.self.view_is c.requires c.index_mut-in-Decided.ensures.value in
    let here : slice_get grants k ≡ Some (Some grant) = seat ∙ ap (λ (s : Option Ruling). Some s) (sym c.take.ensures.value ∙ c.in-Some.is) in
    grant_suits inside c.self.invariant n ruling grants course k life grant has.at (entry_at grants k (Some grant) here) (given.granted k grant here)

pub invariant_of-self-then-not-is_left : goal.invariant_of-self-then-not-is_left
invariant_of-self-then-not-is_left c =
    let w = c.args.self.now in
    let inside = c.self.inside in
    let k = c.args.number in
    let n = c.in-Decided.coordinator in
    let ruling = ruling_of c.in-Decided.ruling in
    let grants = c.in-Decided.grants.items in
    let course = ap course_of c.in-Decided.is in
    let given : HasGrants inside.lives.items ruling grants = subst (FitsLives inside.lives.items) c.in-Decided.is c.self.invariant.fits in
    let below = lives_below w inside k c.self.view_is c.requires in
    let seat = slice_get_read grants (length grants) k c.index_mut.result.now refl (omega (arith, below, grants_many inside c.self.invariant n ruling grants course)) c.index_mut.ensures.value in
    let life = c.index_mut-in-Decided.result.now in
    let grant = c.in-Some.grant in
    let has = has_life w inside k life c.self.view_is c.requires c.index_mut-in-Decided.ensures.value in
    let here : slice_get grants k ≡ Some (Some grant) = seat ∙ ap (λ (s : Option Ruling). Some s) (sym c.take.ensures.value ∙ c.in-Some.is) in
    let after = c.adopt-answer.new.self in
    let left : list_any (λ (g : Option Ruling). is_some g) (slice_set grants k c.take.new.self) ≡ false =
    ap (λ (gs : List (Option Ruling)). list_any (λ (g : Option Ruling). is_some g) gs) (sym c.as_slice.ensures.value) ∙ sym c.is_left.ensures ∙ c.if-not-is_left.true in
    let on : list_any (λ (g : Option Ruling). is_some g) (slice_set grants k None) ≡ false =
    ap (λ (s : Option Ruling). list_any (λ (g : Option Ruling). is_some g) (slice_set grants k s)) (sym c.take.ensures.after) ∙ left in
    let done = thaws has n ruling grant grants after c.adopt-answer.result c.adopted-event.result (Idle) course here (given.granted k grant here) c.adopt-answer.ensures c.adopted-event.ensures (still_off n ruling (slice_set grants k None) on) in
    let kept = taken_safe c.steps_keep_safe.ensures w _ inside (Thaw k) c.adopted-event.result c.self.view_is c.self.invariant done in
    rw c.end.ensures (record { safe = kept.0; facts = kept.1; fits = tt; few = few_still has after c.self.invariant.few })

pub returns-then-not-is_left : goal.returns-then-not-is_left
returns-then-not-is_left c =
    let w = c.args.self.now in
    let inside = c.self.inside in
    let k = c.args.number in
    let n = c.in-Decided.coordinator in
    let ruling = ruling_of c.in-Decided.ruling in
    let grants = c.in-Decided.grants.items in
    let course = ap course_of c.in-Decided.is in
    let given : HasGrants inside.lives.items ruling grants = subst (FitsLives inside.lives.items) c.in-Decided.is c.self.invariant.fits in
    let below = lives_below w inside k c.self.view_is c.requires in
    let seat = slice_get_read grants (length grants) k c.index_mut.result.now refl (omega (arith, below, grants_many inside c.self.invariant n ruling grants course)) c.index_mut.ensures.value in
    let life = c.index_mut-in-Decided.result.now in
    let grant = c.in-Some.grant in
    let has = has_life w inside k life c.self.view_is c.requires c.index_mut-in-Decided.ensures.value in
    let here : slice_get grants k ≡ Some (Some grant) = seat ∙ ap (λ (s : Option Ruling). Some s) (sym c.take.ensures.value ∙ c.in-Some.is) in
    let after = c.adopt-answer.new.self in
    let left : list_any (λ (g : Option Ruling). is_some g) (slice_set grants k c.take.new.self) ≡ false =
    ap (λ (gs : List (Option Ruling)). list_any (λ (g : Option Ruling). is_some g) gs) (sym c.as_slice.ensures.value) ∙ sym c.is_left.ensures ∙ c.if-not-is_left.true in
    let on : list_any (λ (g : Option Ruling). is_some g) (slice_set grants k None) ≡ false =
    ap (λ (s : Option Ruling). list_any (λ (g : Option Ruling). is_some g) (slice_set grants k s)) (sym c.take.ensures.after) ∙ left in
    let done = thaws has n ruling grant grants after c.adopt-answer.result c.adopted-event.result (Idle) course here (given.granted k grant here) c.adopt-answer.ensures c.adopted-event.ensures (still_off n ruling (slice_set grants k None) on) in
    rw c.end.ensures done

pub invariant_of-self-else-not-is_left : goal.invariant_of-self-else-not-is_left
invariant_of-self-else-not-is_left c =
    let w = c.args.self.now in
    let inside = c.self.inside in
    let k = c.args.number in
    let n = c.in-Decided.coordinator in
    let ruling = ruling_of c.in-Decided.ruling in
    let grants = c.in-Decided.grants.items in
    let course = ap course_of c.in-Decided.is in
    let given : HasGrants inside.lives.items ruling grants = subst (FitsLives inside.lives.items) c.in-Decided.is c.self.invariant.fits in
    let below = lives_below w inside k c.self.view_is c.requires in
    let seat = slice_get_read grants (length grants) k c.index_mut.result.now refl (omega (arith, below, grants_many inside c.self.invariant n ruling grants course)) c.index_mut.ensures.value in
    let life = c.index_mut-in-Decided.result.now in
    let grant = c.in-Some.grant in
    let has = has_life w inside k life c.self.view_is c.requires c.index_mut-in-Decided.ensures.value in
    let here : slice_get grants k ≡ Some (Some grant) = seat ∙ ap (λ (s : Option Ruling). Some s) (sym c.take.ensures.value ∙ c.in-Some.is) in
    let after = c.adopt-answer.new.self in
    let left : list_any (λ (g : Option Ruling). is_some g) (slice_set grants k c.take.new.self) ≡ true = search rules in
    let on : list_any (λ (g : Option Ruling). is_some g) (slice_set grants k None) ≡ true =
    ap (λ (s : Option Ruling). list_any (λ (g : Option Ruling). is_some g) (slice_set grants k s)) (sym c.take.ensures.after) ∙ left in
    let done = thaws has n ruling grant grants after c.adopt-answer.result c.adopted-event.result (Decided n ruling (map is_some (slice_set grants k None))) course here (given.granted k grant here) c.adopt-answer.ensures c.adopted-event.ensures (still_on n ruling (slice_set grants k None) on) in
    let kept = taken_safe c.steps_keep_safe.ensures w _ inside (Thaw k) c.adopted-event.result c.self.view_is c.self.invariant done in
    rw c.take.ensures.after (record { safe = kept.0; facts = kept.1; fits = grants_less inside.lives.items k life after has.at ruling grants given; few = few_still has after c.self.invariant.few })

pub returns-else-not-is_left : goal.returns-else-not-is_left
returns-else-not-is_left c =
    let w = c.args.self.now in
    let inside = c.self.inside in
    let k = c.args.number in
    let n = c.in-Decided.coordinator in
    let ruling = ruling_of c.in-Decided.ruling in
    let grants = c.in-Decided.grants.items in
    let course = ap course_of c.in-Decided.is in
    let given : HasGrants inside.lives.items ruling grants = subst (FitsLives inside.lives.items) c.in-Decided.is c.self.invariant.fits in
    let below = lives_below w inside k c.self.view_is c.requires in
    let seat = slice_get_read grants (length grants) k c.index_mut.result.now refl (omega (arith, below, grants_many inside c.self.invariant n ruling grants course)) c.index_mut.ensures.value in
    let life = c.index_mut-in-Decided.result.now in
    let grant = c.in-Some.grant in
    let has = has_life w inside k life c.self.view_is c.requires c.index_mut-in-Decided.ensures.value in
    let here : slice_get grants k ≡ Some (Some grant) = seat ∙ ap (λ (s : Option Ruling). Some s) (sym c.take.ensures.value ∙ c.in-Some.is) in
    let after = c.adopt-answer.new.self in
    let left : list_any (λ (g : Option Ruling). is_some g) (slice_set grants k c.take.new.self) ≡ true = search rules in
    let on : list_any (λ (g : Option Ruling). is_some g) (slice_set grants k None) ≡ true =
    ap (λ (s : Option Ruling). list_any (λ (g : Option Ruling). is_some g) (slice_set grants k s)) (sym c.take.ensures.after) ∙ left in
    let done = thaws has n ruling grant grants after c.adopt-answer.result c.adopted-event.result (Decided n ruling (map is_some (slice_set grants k None))) course here (given.granted k grant here) c.adopt-answer.ensures c.adopted-event.ensures (still_on n ruling (slice_set grants k None) on) in
    rw c.take.ensures.after done
