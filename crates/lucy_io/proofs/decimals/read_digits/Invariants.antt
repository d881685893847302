use Rattle.std.proofs.Common.{◌≡◌, ◌<◌, ◌^◌, drop}
use Rattle.lucy_io.specs.Decimals.{digits_on}
use Rattle.lucy_io.proofs.decimals.read_digits.Given as goal

abbrev pub invariant-loop-byte : goal.invariant-loop-byte
invariant-loop-byte l = (l.value < 2 ^ 128) × (digits_on 0 l.text ≡ digits_on l.value (drop l.byte-index l.text))
