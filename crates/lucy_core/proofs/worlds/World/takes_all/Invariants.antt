use Rattle.std.proofs.Common.{length, take}
use Rattle.std.specs.Prelude.{All}
use Rattle.lucy_calls.specs.Laws.{IsStepOf}
use Rattle.lucy_core.proofs.worlds.World.takes_all.Given as goal

abbrev pub invariant-loop-step : goal.invariant-loop-step
invariant-loop-step l = All (IsStepOf (length l.self.replicas)) (take l.step-index l.steps)
