use Rattle.std.proofs.Common.{◌≡◌, [], length}
use Rattle.lucy_calls.specs.Lines.{up_to_end}
use Rattle.lucy_calls.specs.NextLines.{left}
use Rattle.lucy_calls.specs.Steps.{with_step}
use Rattle.lucy_calls.proofs.step_lines.read_up_to_end.Given as goal

abbrev pub invariant-loop-steps : goal.invariant-loop-steps
invariant-loop-steps l = up_to_end (with_step l.replicas) l.steps.items (left l.rest) ≡ up_to_end (with_step l.replicas) [] (left l.fn.lines)

abbrev pub decreases-loop-steps : goal.decreases-loop-steps
decreases-loop-steps l = length l.rest.rest.now
