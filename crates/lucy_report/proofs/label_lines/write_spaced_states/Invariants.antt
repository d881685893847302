use Rattle.std.proofs.Common.{◌≡◌, ◌++◌, drop}
use Rattle.lucy_report.specs.LabelTexts.{spaced_states}
use Rattle.lucy_report.proofs.label_lines.write_spaced_states.Given as goal

abbrev pub invariant-loop-state : goal.invariant-loop-state
invariant-loop-state l = l.out.items ++ spaced_states (drop l.state-index l.states) ≡ l.fn.out.items ++ spaced_states l.states
