use Rattle.std.proofs.Common.{◌≡◌, ◌≤◌, ◌-◌}
use Rattle.lucy_net.specs.Draws.{generator_of}
use Rattle.lucy_make.specs.Steps.{rounds, empty}
use Rattle.lucy_make.proofs.steps.make_steps.Given as goal

abbrev pub invariant-loop-round : goal.invariant-loop-round
invariant-loop-round l = record {
  made : rounds l.replicas (l.rounds - l._round) (l.script, l.chaos) ≡ rounds l.replicas l.rounds (empty, generator_of l.seed);
  few : l.script.sent ≤ l._round;
}
