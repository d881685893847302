use Rattle.std.proofs.Common.{◌≡◌, ◌++◌, drop}
use Rattle.lucy_make.specs.PlanTexts.{number_lines}
use Rattle.lucy_make.proofs.plan_text.write_number_lines.Given as goal

abbrev pub invariant-loop-place : goal.invariant-loop-place
invariant-loop-place l = l.out.items ++ number_lines l.place (drop l.place l.heights) ≡ l.fn.out.items ++ number_lines 0 l.heights
