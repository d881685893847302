-- The line of a step.
use Rattle.std.specs.Prelude.{ℕ, ℤ, Bool, true, false, List, [], ◌∷◌, ◌++◌, Option, Some, None, codes, decimal}
use Rattle.std.specs.Fmt.{signed_decimal}
use Rattle.lucy_calls.specs.declared.steps.Step.{Step}
use Rattle.lucy_calls.specs.declared.steps.Step.TheVariants.{Submit, Send, Deliver, Begin, Freeze, OpenEpoch, Thaw}
use Rattle.lucy_replica.specs.declared.events.Event.{Event}
use Rattle.lucy_replica.specs.declared.events.Event.TheVariants as event
use Rattle.lucy_replica.specs.declared.events.Stage.{Stage}
use Rattle.lucy_replica.specs.declared.events.Stage.TheVariants as stage

-- numbers, each behind a comma
abbrev pub more_numbers : List ℤ → List ℕ
more_numbers [] = []
more_numbers (x ∷ xs) = codes "," ++ signed_decimal x ++ more_numbers xs

-- numbers with commas between them
abbrev pub numbers_text : List ℤ → List ℕ
numbers_text [] = []
numbers_text (x ∷ xs) = signed_decimal x ++ more_numbers xs

-- the numbers of a state, in parentheses
unfoldable pub state_text : List ℤ → List ℕ
state_text state = codes "(" ++ numbers_text state ++ codes ")"

-- an id: its replica and its count
unfoldable pub id_text : ℕ → ℕ → List ℕ
id_text replica count = decimal replica ++ codes "." ++ decimal count

-- a step as it stands in its script
unfoldable pub step_text : Step → List ℕ
step_text (Submit replica) = codes "submit " ++ decimal replica
step_text (Send replica) = codes "send " ++ decimal replica
step_text (Deliver to packet) = codes "deliver " ++ decimal to ++ codes " " ++ decimal packet
step_text (Begin replica) = codes "begin " ++ decimal replica
step_text (Freeze replica) = codes "freeze " ++ decimal replica
step_text OpenEpoch = codes "open"
step_text (Thaw replica) = codes "thaw " ++ decimal replica

abbrev pub stage_text : Stage → List ℕ
stage_text stage.Freezing = codes "freezing"
stage_text stage.Decided = codes "decided"

-- an event
unfoldable pub event_text : Event → List ℕ
event_text (event.Done id) = codes "done " ++ id_text id.replica id.count
event_text event.Broken = codes "broken"
event_text event.Wants = codes "wants"
event_text event.Ended = codes "ended"
event_text (event.Sent packet) = codes "packet " ++ decimal packet
event_text event.Merged = codes "merged"
event_text event.Stale = codes "stale"
event_text event.Deep = codes "deep"
event_text event.NoPacket = codes "no packet"
event_text event.Held = codes "held"
event_text event.Free = codes "free"
event_text event.Idle = codes "idle"
event_text (event.Busy stage) = codes "busy " ++ stage_text stage
event_text event.Nothing = codes "nothing"
event_text event.Begun = codes "begun"
event_text event.Frozen = codes "frozen"
event_text (event.Opened number) = codes "epoch " ++ decimal number
event_text event.RuledBroken = codes "broken"
event_text event.RuledNothing = codes "nothing"
event_text event.Adopted = codes "adopted"
event_text (event.Moved id) = codes "moved " ++ id_text id.replica id.count
event_text event.Refused = codes "refused"
event_text event.Kept = codes "kept"

-- whether the state of the step's replica is shown after the event
abbrev pub shows_state : Event → Bool
shows_state (event.Sent packet) = false
shows_state event.NoPacket = false
shows_state event.Idle = false
shows_state (event.Busy stage) = false
shows_state event.Begun = false
shows_state (event.Opened number) = false
shows_state event.RuledBroken = false
shows_state event.RuledNothing = false
shows_state _ = true

-- a state behind a space, where one is shown
abbrev pub shown : Option (List ℤ) → List ℕ
shown None = []
shown (Some state) = codes " " ++ state_text state

-- the line of a step: the step, the event, and the state after it where one is shown
unfoldable pub step_line : Step → Event → Option (List ℤ) → List ℕ
step_line step event state = step_text step ++ codes ": " ++ event_text event ++ shown state ++ codes "\n"
