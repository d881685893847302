use Rattle.std.proofs.Common.{◌≡◌, ◌++◌, drop}
use Rattle.lucy_calls.specs.Texts.{step_lines}
use Rattle.lucy_calls.proofs.step_text.write_lines.Given as goal

abbrev pub invariant-loop-step : goal.invariant-loop-step
invariant-loop-step l = l.out.items ++ step_lines (drop l.step-index l.steps) ≡ l.fn.out.items ++ step_lines l.steps
