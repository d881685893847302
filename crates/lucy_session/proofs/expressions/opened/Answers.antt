use Rattle.std.proofs.Common.{rules, arith}
use Rattle.lucy_session.proofs.ExpressionLemmas.{inside_at}
use Rattle.lucy_session.proofs.expressions.opened.Goals as goal

pub returns-else-depth-eq0-clause-inside : goal.returns-else-depth-eq0-clause-inside
returns-else-depth-eq0-clause-inside c = inside_at c.args.plan.now c.args.depth (search (rules, arith))
