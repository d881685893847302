-- What a step script says.
use Rattle.std.specs.Prelude.{ℕ, ◌^◌, nat_lt, if◌then◌else◌, List, [], ◌∷◌, ◌++◌, Option, Some, None, codes, bytes_eq, Ok, Err}
use Rattle.lucy_calls.specs.declared.error.CallsError.{CallsError}
use Rattle.lucy_calls.specs.declared.error.CallsError.TheVariants.{BadLine}
use Rattle.lucy_calls.specs.declared.step_lines.Act.{Act}
use Rattle.lucy_calls.specs.declared.step_lines.Act.TheVariants as act
use Rattle.lucy_calls.specs.declared.steps.Step.{Step}
use Rattle.lucy_calls.specs.declared.steps.Step.TheVariants.{Submit, Send, Deliver, Begin, Freeze, OpenEpoch, Thaw}
use Rattle.lucy_calls.specs.Fields.{fields_of, heading}
use Rattle.lucy_calls.specs.Lines.{within_bytes, listing, next, up_to_end}
use Rattle.lucy_calls.specs.Numbers.{number, number_behind, below, or_bad_line}
use Rattle.lucy_io.specs.Outcomes.{Outcome, ◌>>=◌}

-- what a word says of one replica
abbrev pub act_of : List ℕ → Option Act
act_of word =
    if bytes_eq word (codes "submit") then Some act.Submit
    else if bytes_eq word (codes "send") then Some act.Send
    else if bytes_eq word (codes "begin") then Some act.Begin
    else if bytes_eq word (codes "freeze") then Some act.Freeze
    else if bytes_eq word (codes "thaw") then Some act.Thaw
    else None

abbrev pub step_by : Act → ℕ → Step
step_by act.Submit replica = Submit replica
step_by act.Send replica = Send replica
step_by act.Begin replica = Begin replica
step_by act.Freeze replica = Freeze replica
step_by act.Thaw replica = Thaw replica

-- `open`
unfoldable pub alone : ℕ → List ℕ → Outcome CallsError Step
alone n word = if bytes_eq word (codes "open") then Ok OpenEpoch else Err (BadLine n)

abbrev pub act_in : ℕ → List ℕ → Outcome CallsError Act
act_in n word = or_bad_line n (act_of word)

-- `submit J`, `send J`, `begin J`, `freeze J`, `thaw J`
unfoldable pub of_replica : ℕ → ℕ → List ℕ → List ℕ → Outcome CallsError Step
of_replica replicas n word digits = do
  act ← act_in n word
  number ← number n digits
  replica ← below replicas n number
  Ok (step_by act replica)

-- a packet's number is below 2 ^ 64
unfoldable pub packet_of : ℕ → List ℕ → Outcome CallsError ℕ
packet_of n digits = do
  packet ← number n digits
  if nat_lt packet (2 ^ 64) then Ok packet else Err (BadLine n)

-- `deliver J P`
unfoldable pub delivery : ℕ → ℕ → List ℕ → List ℕ → List ℕ → Outcome CallsError Step
delivery replicas n word digits packet_digits = do
  to ← number_behind (codes "deliver") n word digits
  packet ← packet_of n packet_digits
  replica ← below replicas n to
  Ok (Deliver replica packet)

-- the step of a line with these fields
unfoldable pub step_of : ℕ → ℕ → List (List ℕ) → Outcome CallsError Step
step_of replicas n (word ∷ []) = alone n word
step_of replicas n (word ∷ digits ∷ []) = of_replica replicas n word digits
step_of replicas n (word ∷ digits ∷ packet ∷ []) = delivery replicas n word digits packet
step_of replicas n _ = Err (BadLine n)

-- a line's step behind those before it
unfoldable pub with_step : ℕ → ℕ → List ℕ → List Step → Outcome CallsError (List Step)
with_step replicas n line steps = do
  fields ← fields_of n line
  step ← step_of replicas n fields
  Ok (steps ++ step ∷ [])

-- the line `steps 1`, the steps, the line `end`
unfoldable pub script_of : ℕ → List ℕ → Outcome CallsError (List Step)
script_of replicas text = next (heading (codes "steps")) (listing 1 text) >>= λ found. up_to_end (with_step replicas) [] found.1

-- a script has at most 2 ^ 20 bytes
unfoldable pub steps_of : ℕ → List ℕ → Outcome CallsError (List Step)
steps_of replicas text = within_bytes (2 ^ 20) text >>= λ _. script_of replicas text
