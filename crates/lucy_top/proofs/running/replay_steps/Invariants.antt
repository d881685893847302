use Rattle.std.proofs.Common.{◌≡◌, ◌++◌, drop, length}
use Rattle.std.specs.Arc.{arc_value}
use Rattle.lucy_core.specs.Worlds.{opening_world}
use Rattle.lucy_core.specs.Steps.{world_after}
use Rattle.lucy_top.specs.Replays.{run_lines}
use Rattle.lucy_top.proofs.running.replay_steps.Given as goal

abbrev pub invariant-loop-step : goal.invariant-loop-step
invariant-loop-step l = record {
  text : l.text.items ++ run_lines l.world (drop l.step-index l.steps) ≡ run_lines (opening_world (arc_value l.fn.checked) l.work.lists) l.steps;
  world : world_after l.world (drop l.step-index l.steps) ≡ world_after (opening_world (arc_value l.fn.checked) l.work.lists) l.steps;
  replicas : length l.world.replicas ≡ length l.work.lists;
}
