use Rattle.std.proofs.Common.{◌≡◌, drop, fold}
use Rattle.lucy_checker.specs.Checking.{progressed, progress_of}
use Rattle.lucy_checker.proofs.checker.check.Given as goal

abbrev pub invariant-loop-step : goal.invariant-loop-step
invariant-loop-step l =
    progress_of l.formula l.fn.live l.proof.steps ≡ fold (progressed l.formula) l.progress (drop l.step-index l.step-items)
