use Rattle.std.proofs.Common.{◌≡◌, drop}
use Rattle.lucy_checker.specs.Checking.{all_kept}
use Rattle.lucy_checker.proofs.progress.all_kept.Given as goal

abbrev pub invariant-loop-number : goal.invariant-loop-number
invariant-loop-number l =
    all_kept l.held.numbers l.numbers ≡ all_kept l.held.numbers (drop l.number-index l.numbers)
