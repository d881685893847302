-- What a replay writes, and that its worlds are safe.
use Rattle.std.specs.Prelude.{ℕ, ℤ, if◌then◌else◌, List, [], ◌∷◌, ◌++◌, take, Option, None, option_map, slice_get}
use Rattle.lucy_plan.specs.declared.parts.Call.{Call}
use Rattle.lucy_plan.specs.declared.parts.PlanParts.{PlanParts}
use Rattle.lucy_calls.specs.declared.steps.Step.{Step}
use Rattle.lucy_calls.specs.declared.steps.Step.TheVariants.{Submit, Send, Deliver, Begin, Freeze, OpenEpoch, Thaw}
use Rattle.lucy_replica.specs.Replicas.{Replica, state_of}
use Rattle.lucy_replica.specs.declared.events.Event.{Event}
use Rattle.lucy_core.specs.Worlds.{World, opening_world}
use Rattle.lucy_core.specs.Steps.{step_of, world_after}
use Rattle.lucy_core.specs.Safety.{IsSafe, KeepsFacts}
use Rattle.lucy_report.specs.StepTexts.{shows_state, step_line}
use Rattle.lucy_names.specs.Plans.{segment_names}
use Rattle.lucy_report.specs.WorldTexts.{world_text}

-- the replica that a step names
abbrev pub named_replica : List Replica → Step → Option Replica
named_replica replicas (Submit number) = slice_get replicas number
named_replica replicas (Send number) = slice_get replicas number
named_replica replicas (Deliver to packet) = slice_get replicas to
named_replica replicas (Begin number) = slice_get replicas number
named_replica replicas (Freeze number) = slice_get replicas number
named_replica replicas OpenEpoch = None
named_replica replicas (Thaw number) = slice_get replicas number

-- the state of that replica, where the event shows it
abbrev pub shown_state : List Replica → Step → Event → Option (List ℤ)
shown_state replicas step event = if shows_state event then option_map state_of (named_replica replicas step) else None

-- the line of a step, from what it answered and the world after it
unfoldable pub line_after : Step → Event × World → List ℕ
line_after step answer = step_line step answer.0 (shown_state answer.1.replicas step answer.0)

-- the lines of a list of steps, in order
abbrev pub run_lines : World → List Step → List ℕ
run_lines w [] = []
run_lines w (step ∷ steps) = line_after step (step_of w step) ++ run_lines (step_of w step).1 steps

-- what a replay of these steps writes: their lines, and the world after them
unfoldable pub replay_text : PlanParts → List (List Call) → List Step → List ℕ
replay_text plan work steps =
    let last = world_after (opening_world plan work) steps in
    run_lines (opening_world plan work) steps ++ world_text (segment_names plan) last.records last.replicas

-- after each front of the steps the world is safe, and keeps the facts that its safety rests on
pub record IsSafeThroughout (plan : PlanParts) (work : List (List Call)) (steps : List Step) : Type 0 where
  pub safe : (n : ℕ) → IsSafe (world_after (opening_world plan work) (take n steps))
  pub facts : (n : ℕ) → KeepsFacts (world_after (opening_world plan work) (take n steps))
