use Rattle.std.proofs.Common.{rules}
use Rattle.lucy_syntax.specs.Conditions.{ands, ors}
use Rattle.lucy_syntax.proofs.Turns.{begins, goes_on, ends, fails, is_over}
use Rattle.lucy_syntax.proofs.conditions.+conditions.Goals as goal

pub ands-loop-turn-init : goal.ands-loop-turn-init
unfolding ands
ands-loop-turn-init t c = search (rules, begins)

pub ands-returns-in-None : goal.ands-returns-in-None
ands-returns-in-None t c = ends c.loop-turn.invariant c.loop-turn-test.true _ c.in-None.ensures

pub ands-returns-in_err-item-in-Some : goal.ands-returns-in_err-item-in-Some
ands-returns-in_err-item-in-Some t c = search (rules, fails c.loop-turn.invariant c.loop-turn-test.true _ _ _ c.in-Some.ensures c.in_err-item-in-Some.ensures)

pub ands-loop-turn-preserved : goal.ands-loop-turn-preserved
ands-loop-turn-preserved t c = search (rules, goes_on c.loop-turn.invariant c.loop-turn-test.true _ _ _ _ c.in-Some.ensures c.in_ok-item-in-Some.ensures)

pub ands-returns : goal.ands-returns
ands-returns t c = is_over c.loop-turn.invariant c.loop-turn-test.false

pub ors-loop-turn-init : goal.ors-loop-turn-init
unfolding ors
ors-loop-turn-init t c = search (rules, begins)

pub ors-returns-in-None : goal.ors-returns-in-None
ors-returns-in-None t c = ends c.loop-turn.invariant c.loop-turn-test.true _ c.in-None.ensures

pub ors-returns-in_err-item-in-Some : goal.ors-returns-in_err-item-in-Some
ors-returns-in_err-item-in-Some t c = search (rules, fails c.loop-turn.invariant c.loop-turn-test.true _ _ _ c.in-Some.ensures c.in_err-item-in-Some.ensures)

pub ors-loop-turn-preserved : goal.ors-loop-turn-preserved
ors-loop-turn-preserved t c = search (rules, goes_on c.loop-turn.invariant c.loop-turn-test.true _ _ _ _ c.in-Some.ensures c.in_ok-item-in-Some.ensures)

pub ors-returns : goal.ors-returns
ors-returns t c = is_over c.loop-turn.invariant c.loop-turn-test.false
