use Rattle.std.proofs.Common.{◌≡◌, length, take}
use Rattle.lucy_core.specs.Steps.{run_of}
use Rattle.lucy_core.proofs.worlds.World.run.Given as goal

abbrev pub invariant-loop-step : goal.invariant-loop-step
invariant-loop-step l =
    record {
      run : run_of l.fn.self (take l.step-index l.steps) ≡ (l.events.items, l.self);
      count : length l.self.replicas ≡ length l.fn.self.replicas;
    }
