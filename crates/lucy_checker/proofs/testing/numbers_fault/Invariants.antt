use Rattle.std.proofs.Common.{◌≡◌, drop}
use Rattle.lucy_checker.specs.Lookup.{are_of_steps}
use Rattle.lucy_checker.proofs.testing.numbers_fault.Given as goal

abbrev pub invariant-loop-number : goal.invariant-loop-number
invariant-loop-number l =
    are_of_steps l.count l.added l.numbers ≡ are_of_steps l.count l.added (drop l.number-index l.numbers)
