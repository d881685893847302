use Rattle.std.proofs.Common.{arith}
use Rattle.lucy_lexer.specs.Bytes.{value_of}
use Rattle.lucy_lexer.proofs.Runs.{one_digit}
use Rattle.lucy_lexer.proofs.bytes.number.Goals as goal

pub returns-then-next-gt-LARGEST-clause-none : goal.returns-then-next-gt-LARGEST-clause-none
returns-then-next-gt-LARGEST-clause-none c =
    let more = one_digit c.loop-digit.value c.loop-digit.digit-index (value_of c.args.digits.now) c.args.digits.now c.loop-digit-test.true c.loop-digit.invariant.0 in
    grind (arith, more)
