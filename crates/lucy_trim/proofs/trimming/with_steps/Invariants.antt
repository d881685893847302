use Rattle.std.proofs.Common.{◌≡◌, drop}
use Rattle.lucy_trim.specs.Steps.{with_steps, begun}
use Rattle.lucy_trim.proofs.trimming.with_steps.Given as goal

abbrev pub invariant-loop-passed : goal.invariant-loop-passed
invariant-loop-passed l = with_steps l.uses.first l.uses.last l.passed l.trimming (drop l.passed l.steps) ≡ with_steps l.uses.first l.uses.last 0 (begun l.uses.first) l.steps
