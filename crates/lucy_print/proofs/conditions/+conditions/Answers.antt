use Rattle.std.proofs.Common.{rules, append_assoc}
use Rattle.lucy_print.proofs.Laying.{laid_append, texts_are}
use Rattle.lucy_print.proofs.CondParts.{cond_text, parens_text, member_text, compare_text}
use Rattle.lucy_print.proofs.Lists.{begins, goes_on, is_over, two}
use Rattle.lucy_print.proofs.conditions.+conditions.Goals as goal

pub put_cond-returns : goal.put_cond-returns
put_cond-returns t c = search (rules, cond_text c.args.cond.now, append_assoc)

pub put_conj-returns : goal.put_conj-returns
put_conj-returns t c = search (rules, laid_append, texts_are, append_assoc)

pub put_disj-returns : goal.put_disj-returns
put_disj-returns t c = search (rules, laid_append, texts_are, append_assoc)

pub put_unary-returns-in_ok-put_cond-in-Parens : goal.put_unary-returns-in_ok-put_cond-in-Parens
put_unary-returns-in_ok-put_cond-in-Parens t c = search (rules, parens_text, member_text, compare_text, append_assoc)

pub put_unary-returns-in-Member : goal.put_unary-returns-in-Member
put_unary-returns-in-Member t c = search (rules, parens_text, member_text, compare_text, append_assoc)

pub put_unary-returns-in_ok-put_relation-in-Compare : goal.put_unary-returns-in_ok-put_relation-in-Compare
put_unary-returns-in_ok-put_relation-in-Compare t c = search (rules, parens_text, member_text, compare_text, append_assoc)

pub put_ands-loop-other-init : goal.put_ands-loop-other-init
put_ands-loop-other-init t c = begins _ _ _

pub put_ands-loop-other-preserved : goal.put_ands-loop-other-preserved
put_ands-loop-other-preserved t c = let e = two _ _ _ _ _ c.in_ok-put.ensures c.in_ok-put_unary.ensures in goes_on c.loop-other.invariant _ _ c.loop-other-test.true c.other-item.is e

pub put_ands-returns : goal.put_ands-returns
put_ands-returns t c = is_over c.loop-other.invariant c.loop-other-test.false

pub put_ors-loop-other-init : goal.put_ors-loop-other-init
put_ors-loop-other-init t c = begins _ _ _

pub put_ors-loop-other-preserved : goal.put_ors-loop-other-preserved
put_ors-loop-other-preserved t c = let e = two _ _ _ _ _ c.in_ok-put.ensures c.in_ok-put_conj.ensures in goes_on c.loop-other.invariant _ _ c.loop-other-test.true c.other-item.is e

pub put_ors-returns : goal.put_ors-returns
put_ors-returns t c = is_over c.loop-other.invariant c.loop-other-test.false
