use Rattle.std.proofs.Common.{sym, ◌∙◌}
use Rattle.std.specs.Cmp.Rules.{signed_items}
use Rattle.lucy_plan.proofs.equality.same_numbers.Goals as goal

pub returns : goal.returns
returns c =
    let decides = signed_items c.args.left.now c.args.right.now in
    (λ h. decides.0 (sym c.eq.ensures ∙ h), λ e. c.eq.ensures ∙ decides.1 e)
