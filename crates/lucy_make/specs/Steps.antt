-- The steps of a number of replicas, a seed and a number of rounds.
use Rattle.std.specs.Prelude.{ℕ, zero, suc, ◌+◌, ◌^◌, ◌<◌, ◌≤◌, ◌==◌, nat_le, if◌then◌else◌, List, [], ◌∷◌, ◌++◌}
use Rattle.std.specs.List.{All}
use Rattle.rand_pcg.specs.Lcg.{Lcg}
use Rattle.lucy_calls.specs.Laws.{IsStepOf}
use Rattle.lucy_calls.specs.declared.steps.Step.{Step}
use Rattle.lucy_calls.specs.declared.steps.Step.TheVariants.{Submit, Send, Deliver, Begin, Freeze, OpenEpoch, Thaw}
use Rattle.lucy_net.specs.Draws.{generator_of, drawn}
use Rattle.lucy_make.specs.Drawing.{Drawing}
use Rattle.lucy_make.specs.declared.steps.Script.{Script}

-- a script with a further step, which sends nothing
abbrev pub with_step : Step → Script → Script
with_step step script = record script { steps = script.steps ++ step ∷ [] }

-- a script with a step that sends a packet
abbrev pub with_send : ℕ → Script → Script
with_send replica script = record { steps = script.steps ++ Send replica ∷ []; sent = script.sent + 1 }

-- a submit of a drawn replica
abbrev pub submit_at : Script → ℕ × Lcg → Script × Lcg
submit_at script draw = (with_step (Submit draw.0) script, draw.1)

abbrev pub submits : ℕ → Script → Drawing Script
submits replicas script generator = submit_at script (drawn replicas generator)

-- a send of a drawn replica
abbrev pub send_at : Script → ℕ × Lcg → Script × Lcg
send_at script draw = (with_send draw.0 script, draw.1)

abbrev pub sends : ℕ → Script → Drawing Script
sends replicas script generator = send_at script (drawn replicas generator)

abbrev pub deliver_at : Script → ℕ → ℕ × Lcg → Script × Lcg
deliver_at script to draw = (with_step (Deliver to draw.0) script, draw.1)

abbrev pub deliver_to : Script → ℕ × Lcg → Script × Lcg
deliver_to script draw = deliver_at script draw.0 (drawn script.sent draw.1)

-- a delivery to a drawn replica of a drawn packet; where none was sent, a send in its place
abbrev pub delivers : ℕ → Script → Drawing Script
delivers replicas script generator = if script.sent == 0 then sends replicas script generator else deliver_to script (drawn replicas generator)

abbrev pub freeze_at : ℕ → Script × Lcg → Script × Lcg
freeze_at k made = (with_step (Freeze k) made.0, made.1)

-- for so many replicas from k on a submit of a drawn replica and a freeze
abbrev pub freezes : ℕ → ℕ → ℕ → Script × Lcg → Script × Lcg
freezes replicas zero k made = made
freezes replicas (suc n) k made = freezes replicas n (suc k) (freeze_at k (submits replicas made.0 made.1))

-- a thaw of so many replicas from k on
abbrev pub thaws : ℕ → ℕ → Script → Script
thaws zero k script = script
thaws (suc n) k script = thaws n (suc k) (with_step (Thaw k) script)

-- the steps with which a replica begins a change
abbrev pub begun : ℕ → Script → Script
begun replica script = with_step (Begin replica) (with_step (Submit replica) script)

-- the steps that decide a change and end it
abbrev pub opened : ℕ → Script → Script
opened replicas script = thaws replicas 0 (with_step OpenEpoch script)

abbrev pub opened_at : ℕ → Script × Lcg → Script × Lcg
opened_at replicas made = (opened replicas made.0, made.1)

abbrev pub change_of : ℕ → Script → ℕ × Lcg → Script × Lcg
change_of replicas script draw = opened_at replicas (freezes replicas replicas 0 (begun draw.0 script, draw.1))

-- a whole change that a drawn replica begins, with submits between the freezes
unfoldable pub changes : ℕ → Script → Drawing Script
changes replicas script generator = change_of replicas script (drawn replicas generator)

-- what a drawn number from 0 to 15 makes of a script
abbrev pub round_by : ℕ → Script → ℕ × Lcg → Script × Lcg
round_by replicas script draw =
    if nat_le draw.0 6 then submits replicas script draw.1
    else if nat_le draw.0 9 then sends replicas script draw.1
    else if nat_le draw.0 13 then delivers replicas script draw.1
    else changes replicas script draw.1

unfoldable pub round : ℕ → Script → Drawing Script
round replicas script generator = round_by replicas script (drawn 16 generator)

-- so many rounds
abbrev pub rounds : ℕ → ℕ → Script × Lcg → Script × Lcg
rounds replicas zero made = made
rounds replicas (suc n) made = rounds replicas n (round replicas made.0 made.1)

-- a script without steps
abbrev pub empty : Script
empty = record { steps = []; sent = 0 }

unfoldable pub made_steps : ℕ → ℕ → ℕ → List Step
made_steps replicas seed count = (rounds replicas count (empty, generator_of seed)).0.steps

-- Each made step names one of the replicas.
abbrev pub MadeStepsNameReplicas : Type 0
MadeStepsNameReplicas = (replicas seed count : ℕ) → 1 ≤ replicas → count < 2 ^ 32 → All (IsStepOf replicas) (made_steps replicas seed count)
