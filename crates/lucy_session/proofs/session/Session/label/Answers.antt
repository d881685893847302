use Rattle.std.proofs.Common.{length, ap, ◌∙◌}
use Rattle.lucy_session.specs.Views.{dialogue_of}
use Rattle.lucy_session.specs.Sessions.{Dialogue}
use Rattle.lucy_session.proofs.KeepingLemmas.{even_on}
use Rattle.lucy_session.proofs.session.Session.label.Goals as goal

pub ask-requires-clause-state : goal.ask-requires-clause-state
ask-requires-clause-state c =
    ap length c.in_ok-state.ensures
    ∙ even_on (dialogue_of c.self.inside) c.in-Some.pair c.in_ok-side.field-0.side c.self.invariant c.in-Some.is
    ∙ ap (λ (d : Dialogue). length d.plan.object) c.self.view_is
