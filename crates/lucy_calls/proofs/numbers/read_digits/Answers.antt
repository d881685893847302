use Rattle.std.proofs.Common.{arith}
use Rattle.lucy_calls.proofs.NumberLemmas.{digit_more}
use Rattle.lucy_calls.proofs.numbers.read_digits.Goals as goal

pub loop-byte-preserved : goal.loop-byte-preserved
loop-byte-preserved c =
    let digit = c.in_ok-digit.ensures.value in record {
      small = omega (arith, c.digit_added-value.ensures);
      same = digit_more c.args.text.now c.loop-byte.byte-index c.loop-byte.value c.from.result c.in_ok-digit.digit c.digit_added-value.result _ c.loop-byte-test.true c.from.ensures digit.0 digit.1 c.digit_added-value.ensures c.loop-byte.invariant.same;
    }
