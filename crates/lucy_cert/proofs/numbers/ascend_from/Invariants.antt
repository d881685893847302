use Rattle.std.proofs.Common.{◌≡◌, drop}
use Rattle.lucy_cert.specs.Numbers.{ascend_from}
use Rattle.lucy_cert.proofs.numbers.ascend_from.Given as goal

abbrev pub invariant-loop-number : goal.invariant-loop-number
invariant-loop-number l = ascend_from l.first l.numbers ≡ ascend_from l.last (drop l.number-index l.numbers)
