use Rattle.std.proofs.Common.{◌≡◌, drop}
use Rattle.lucy_trim.specs.Uses.{noted_from, last_uses}
use Rattle.lucy_trim.proofs.uses.uses_of.Given as goal

abbrev pub invariant-loop-passed : goal.invariant-loop-passed
invariant-loop-passed l = noted_from l.first l.passed l.last (drop l.passed l.steps) ≡ last_uses l.first l.steps
