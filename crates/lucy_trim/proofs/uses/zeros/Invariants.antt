use Rattle.std.proofs.Common.{◌≡◌, ◌++◌, drop}
use Rattle.lucy_trim.specs.Uses.{zeros}
use Rattle.lucy_trim.proofs.uses.zeros.Given as goal

abbrev pub invariant-loop-step : goal.invariant-loop-step
invariant-loop-step l = l.last ++ zeros (drop l._step-index l.steps) ≡ zeros l.steps
