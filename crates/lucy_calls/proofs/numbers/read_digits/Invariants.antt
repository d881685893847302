use Rattle.std.proofs.Common.{◌≡◌, ◌≤◌, ◌^◌, drop}
use Rattle.lucy_io.specs.Decimals.{digits_on}
use Rattle.lucy_calls.proofs.NumberLemmas.{capped}
use Rattle.lucy_calls.proofs.numbers.read_digits.Given as goal

abbrev pub invariant-loop-byte : goal.invariant-loop-byte
invariant-loop-byte l = record {
  small : l.value ≤ 2 ^ 64;
  same : capped (digits_on l.value (drop l.byte-index l.text)) ≡ capped (digits_on 0 l.text);
}
