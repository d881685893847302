use Rattle.std.proofs.Common.{ap, sym, ◌∙◌}
use Rattle.lucy_clauses.specs.Adding.{all_below}
use Rattle.lucy_clauses.proofs.Merges.{put_last}
use Rattle.lucy_clauses.proofs.gathering.put.Goals as goal

pub returns-then-are_below : goal.returns-then-are_below
returns-then-are_below c =
    c.in_ok-push.ensures.items
    ∙ put_last c.args.part c.args.parts.now.items (ap (all_below c.args.part.variable) (sym c.deref.ensures.value) ∙ sym c.are_below.ensures ∙ c.if-are_below.true)
