use Rattle.std.proofs.Common.{◌≡◌, drop, fold}
use Rattle.lucy_checker.specs.Held.{kept_without}
use Rattle.lucy_checker.proofs.progress.without_all.Given as goal

abbrev pub invariant-loop-number : goal.invariant-loop-number
invariant-loop-number l =
    fold kept_without l.fn.held l.numbers ≡ fold kept_without l.held (drop l.number-index l.numbers)
