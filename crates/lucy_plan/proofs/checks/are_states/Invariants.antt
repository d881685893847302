use Rattle.std.proofs.Common.{◌≡◌, drop}
use Rattle.std.specs.List.{list_all}
use Rattle.lucy_model.specs.Ranges.{all_allowed}
use Rattle.lucy_plan.proofs.checks.are_states.Given as goal

abbrev pub invariant-loop-state : goal.invariant-loop-state
invariant-loop-state l = list_all (all_allowed l.object) l.states ≡ list_all (all_allowed l.object) (drop l.state-index l.states)
