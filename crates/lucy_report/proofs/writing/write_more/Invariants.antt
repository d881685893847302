use Rattle.std.proofs.Common.{◌≡◌, ◌++◌, drop}
use Rattle.lucy_report.specs.StepTexts.{more_numbers}
use Rattle.lucy_report.proofs.writing.write_more.Given as goal

abbrev pub invariant-loop-number : goal.invariant-loop-number
invariant-loop-number l = l.out.items ++ more_numbers (drop l.number-index l.numbers) ≡ l.fn.out.items ++ more_numbers l.numbers
