use Rattle.lucy_calls.proofs.LineLemmas.{with_return, with_none}
use Rattle.lucy_calls.proofs.lines.without_return.Goals as goal

pub returns-in-Some : goal.returns-in-Some
returns-in-Some c = λ rest none. with_return c.args.line.now rest c.in-Some.front.now none c.in-Some.ensures.cases.0 c.in-Some.ensures.cases.1

pub returns-in-None : goal.returns-in-None
returns-in-None c = λ rest none. with_none c.args.line.now rest none c.in-None.ensures.cases
