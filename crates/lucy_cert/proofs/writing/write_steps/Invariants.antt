use Rattle.std.proofs.Common.{◌≡◌, ◌++◌, drop}
use Rattle.std.specs.List.{flat_map}
use Rattle.lucy_cert.specs.Texts.{lines_text, step_entries}
use Rattle.lucy_cert.proofs.writing.write_steps.Given as goal

abbrev pub invariant-loop-step : goal.invariant-loop-step
invariant-loop-step l = l.out.items ++ lines_text (flat_map step_entries (drop l.step-index l.steps)) ≡ l.fn.out.items ++ lines_text (flat_map step_entries l.steps)
