use Rattle.std.proofs.Common.{sym, ◌∙◌}
use Rattle.std.specs.Cmp.Rules.{signed_items}
use Rattle.lucy_walks.proofs.walking.is_goal.Goals as goal

pub returns-clause-same : goal.returns-clause-same
returns-clause-same c =
    let decides = signed_items c.args.state.now c.args.goal.now in
    (λ h. decides.0 (sym c.eq.ensures ∙ h), λ e. c.eq.ensures ∙ decides.1 e)
