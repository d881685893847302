use Rattle.lucy_syntax.proofs.Nested.{is_inside}
use Rattle.lucy_syntax.proofs.conditions.opened.Goals as goal

pub returns-clause-inside : goal.returns-clause-inside
returns-clause-inside c = is_inside c.args.depth c.in_ok-span.ensures.positive
