use Rattle.std.proofs.Common.{refl, sym, subst, ◌∙◌}
use Rattle.lucy_session.specs.Views.{dialogue_of}
use Rattle.lucy_session.specs.Sessions.{Dialogue, Stands}
use Rattle.lucy_session.proofs.KeepingLemmas.{means_at, drawn_if_some, if_ok}
use Rattle.lucy_session.proofs.StandingLemmas.{stands_of}
use Rattle.lucy_session.proofs.session.Session.next.Goals as goal

pub returns-then-is_some-clause-stands : goal.returns-then-is_some-clause-stands
returns-then-is_some-clause-stands c =
    let d = dialogue_of c.self.inside in
    if_ok _ _ _ (λ next e. subst (λ (x : Dialogue). Stands x.pair next) c.self.view_is (stands_of c.as_slice.result.now d.pair next e)) c.answer_of.ensures

pub returns-clause-stands : goal.returns-clause-stands
returns-clause-stands c = stands_of c.as_slice-3.result.now c.in_ok-pair.pair c.in_ok-next.next c.in_ok-next.ensures

pub returns-then-is_some-clause-means : goal.returns-then-is_some-clause-means
returns-then-is_some-clause-means c =
    let d = dialogue_of c.self.inside in
    if_ok _ _ _ (λ next e.
    means_at d c.args.self.now c.parts-parts.result.now d.plan d.points c.as_slice.result.now d.pair next c.self.invariant c.self.view_is (c.parts-parts.ensures.parts ∙ c.deref.ensures)
    c.parts-parts.ensures.kept refl refl c.as_slice.ensures.value (drawn_if_some d d.pair c.self.invariant refl (sym c.is_some.ensures ∙ c.if-is_some.true)) e) c.answer_of.ensures

pub returns-clause-means : goal.returns-clause-means
returns-clause-means c =
    let d = dialogue_of c.self.inside in
    means_at d c.args.self.now c.parts-parts.result.now c.deref-2.result.now c.as_slice-2.result.now c.as_slice-3.result.now c.in_ok-pair.pair c.in_ok-next.next c.self.invariant c.self.view_is
    (c.parts-parts.ensures.parts ∙ c.deref.ensures) c.parts-parts.ensures.kept c.deref-2.ensures c.as_slice-2.ensures.value c.as_slice-3.ensures.value c.in_ok-pair.ensures
    c.in_ok-next.ensures
