use Rattle.lucy_syntax.proofs.Nested.{in_pair}
use Rattle.lucy_syntax.proofs.objects.opened_pair.Goals as goal

pub returns-clause-inside : goal.returns-clause-inside
returns-clause-inside c = in_pair c.args.depth c.in_ok-span.ensures.positive
