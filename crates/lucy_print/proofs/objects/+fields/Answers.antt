use Rattle.std.proofs.Common.{rules, append_assoc}
use Rattle.lucy_print.proofs.PairParts.{set_text, pair_text}
use Rattle.lucy_print.proofs.Lists.{begins, goes_on, is_over}
use Rattle.lucy_print.proofs.objects.+fields.Goals as goal

pub put_field-returns-in-Set : goal.put_field-returns-in-Set
put_field-returns-in-Set t c = search (rules, set_text, pair_text, append_assoc)

pub put_field-returns-in_ok-put_fields-in-Pair : goal.put_field-returns-in_ok-put_fields-in-Pair
put_field-returns-in_ok-put_fields-in-Pair t c = search (rules, set_text, pair_text, append_assoc)

pub put_fields-loop-field-init : goal.put_fields-loop-field-init
put_fields-loop-field-init t c = begins _ _ _

pub put_fields-loop-field-preserved : goal.put_fields-loop-field-preserved
put_fields-loop-field-preserved t c = goes_on c.loop-field.invariant _ _ c.loop-field-test.true c.field-item.is c.in_ok-put_field.ensures

pub put_fields-returns : goal.put_fields-returns
put_fields-returns t c = is_over c.loop-field.invariant c.loop-field-test.false
