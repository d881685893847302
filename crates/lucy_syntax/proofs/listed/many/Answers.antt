use Rattle.std.proofs.Common.{rules}
use Rattle.lucy_syntax.proofs.Turns.{begins, goes_on, ends, fails, is_over}
use Rattle.lucy_syntax.proofs.listed.many.Goals as goal

pub loop-turn-init : goal.loop-turn-init
loop-turn-init g c = search (rules, begins)

pub returns-in-None : goal.returns-in-None
returns-in-None g c = ends c.loop-turn.invariant c.loop-turn-test.true _ c.in-None.ensures

pub returns-in_err-item-in-Some : goal.returns-in_err-item-in-Some
returns-in_err-item-in-Some g c = search (rules, fails c.loop-turn.invariant c.loop-turn-test.true _ _ _ c.in-Some.ensures c.in_err-item-in-Some.ensures)

pub loop-turn-preserved : goal.loop-turn-preserved
loop-turn-preserved g c = search (rules, goes_on c.loop-turn.invariant c.loop-turn-test.true _ _ _ _ c.in-Some.ensures c.in_ok-item-in-Some.ensures)

pub returns : goal.returns
returns g c = is_over c.loop-turn.invariant c.loop-turn-test.false
