-- One thread alone: each call is submitted, and one that wants a change gets a whole change at once.
use Rattle.std.specs.Prelude.{ℕ, zero, suc, ◌+◌, if◌then◌else◌, Bool, true, false, List, [], ◌∷◌, ◌++◌, length}
use Rattle.lucy_plan.specs.declared.parts.Call.{Call}
use Rattle.lucy_plan.specs.declared.parts.PlanParts.{PlanParts}
use Rattle.lucy_calls.specs.declared.steps.Step.{Step}
use Rattle.lucy_calls.specs.declared.steps.Step.TheVariants.{Submit, Begin, Freeze, OpenEpoch, Thaw}
use Rattle.lucy_replica.specs.declared.events.Event.{Event}
use Rattle.lucy_replica.specs.declared.events.Event.TheVariants.{Wants}
use Rattle.lucy_core.specs.Worlds.{World, opening_world}
use Rattle.lucy_core.specs.Steps.{step_of, world_after}

-- so many replicas from a number on are frozen, ascending
abbrev pub freezes : ℕ → ℕ → List Step
freezes from zero = []
freezes from (suc count) = Freeze from ∷ freezes (from + 1) count

-- the replicas below a number are thawed, descending
abbrev pub thaws : ℕ → List Step
thaws zero = []
thaws (suc number) = Thaw number ∷ thaws number

-- a whole change among so many replicas, for a coordinator
abbrev pub whole_change : ℕ → ℕ → List Step
whole_change replicas coordinator = Begin coordinator ∷ (freezes 0 replicas ++ OpenEpoch ∷ thaws replicas)

-- a submit wants a change
abbrev pub is_wanting : Event → Bool
is_wanting Wants = true
is_wanting _ = false

-- the world after a replica's next call: it is submitted, and has a whole change where it wants one
abbrev pub after_call : World → ℕ → World
after_call w number =
    if is_wanting (step_of w (Submit number)).0 then world_after (step_of w (Submit number)).1 (whole_change (length w.replicas) number) else (step_of w (Submit number)).1

-- after so many calls of a replica
abbrev pub after_calls : ℕ → World → ℕ → World
after_calls zero w number = w
after_calls (suc count) w number = after_calls count (after_call w number) number

-- after all calls of the replicas of a work, counted from a number on, replica after replica
abbrev pub after_lists : List (List Call) → World → ℕ → World
after_lists [] w number = w
after_lists (calls ∷ work) w number = after_lists work (after_calls (length calls) w number) (number + 1)

-- the world of a work at its end
abbrev pub alone_world : PlanParts → List (List Call) → World
alone_world plan work = after_lists work (opening_world plan work) 0
