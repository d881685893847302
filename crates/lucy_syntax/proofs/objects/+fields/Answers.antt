use Rattle.std.proofs.Common.{rules}
use Rattle.lucy_syntax.specs.Objects.{fields_in}
use Rattle.lucy_syntax.proofs.Turns.{begins, goes_on, ends, fails, is_over}
use Rattle.lucy_syntax.proofs.objects.+fields.Goals as goal

pub fields-loop-turn-init : goal.fields-loop-turn-init
unfolding fields_in
fields-loop-turn-init t c = search (rules, begins)

pub fields-returns-in-None : goal.fields-returns-in-None
fields-returns-in-None t c = ends c.loop-turn.invariant c.loop-turn-test.true _ c.in-None.ensures

pub fields-returns-in_err-item-in-Some : goal.fields-returns-in_err-item-in-Some
fields-returns-in_err-item-in-Some t c = search (rules, fails c.loop-turn.invariant c.loop-turn-test.true _ _ _ c.in-Some.ensures c.in_err-item-in-Some.ensures)

pub fields-loop-turn-preserved : goal.fields-loop-turn-preserved
fields-loop-turn-preserved t c = search (rules, goes_on c.loop-turn.invariant c.loop-turn-test.true _ _ _ _ c.in-Some.ensures c.in_ok-item-in-Some.ensures)

pub fields-returns : goal.fields-returns
fields-returns t c = is_over c.loop-turn.invariant c.loop-turn-test.false
