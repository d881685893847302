use Rattle.lucy_solver.specs.Shows.{AreShown, GoesOn}
use Rattle.lucy_solver.proofs.testing.pushed_steps.Given as goal

abbrev pub invariant-loop-step : goal.invariant-loop-step
invariant-loop-step l = AreShown l.formula l.steps.items × GoesOn l.fn.steps.items l.steps.items
