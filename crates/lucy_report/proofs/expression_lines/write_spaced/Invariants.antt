use Rattle.std.proofs.Common.{◌≡◌, ◌++◌, drop}
use Rattle.lucy_report.specs.ExpressionTexts.{spaced_numbers}
use Rattle.lucy_report.proofs.expression_lines.write_spaced.Given as goal

abbrev pub invariant-loop-number : goal.invariant-loop-number
invariant-loop-number l = l.out.items ++ spaced_numbers (drop l.number-index l.numbers) ≡ l.fn.out.items ++ spaced_numbers l.numbers
