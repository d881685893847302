use Rattle.std.proofs.Common.{◌≡◌, drop}
use Rattle.lucy_judge.specs.Trials as spec
use Rattle.lucy_judge.proofs.trial.passed.Given as goal

abbrev pub invariant-loop-i : goal.invariant-loop-i
invariant-loop-i l = spec.passed l.name l.refusal (drop l.i l.due) ≡ spec.passed l.name l.fn.refusal l.due
