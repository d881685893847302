use Rattle.lucy_syntax.specs.Lists.{many}
use Rattle.lucy_syntax.proofs.Turns.{Turning}
use Rattle.lucy_syntax.proofs.listed.many.Given as goal

abbrev pub invariant-loop-turn : goal.invariant-loop-turn
invariant-loop-turn g l = Turning g.T.Listed.begun g.T.Listed.joined g.T.Listed.read l._turn-end l._turn l.found l.cursor (many g.T.Listed.begun g.T.Listed.joined g.T.Listed.read l.fn.cursor)
