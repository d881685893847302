use Rattle.std.proofs.Common.{◌≡◌, ◌≤◌, ◌^◌, fold, drop}
use Rattle.lucy_lexer.specs.Bytes.{with_digit, value_of}
use Rattle.lucy_lexer.proofs.bytes.number.Given as goal

abbrev pub invariant-loop-digit : goal.invariant-loop-digit
invariant-loop-digit l = (fold with_digit l.value (drop l.digit-index l.digits) ≡ value_of l.digits) × (l.value ≤ 2 ^ 62)
