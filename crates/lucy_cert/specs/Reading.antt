-- A text of lines, byte by byte, and what is made of it.
use Rattle.std.specs.Prelude.{ℕ, ◌+◌, ◌==◌, List, [], ◌∷◌, ◌++◌, Option, Some, None, if◌then◌else◌, fold}
use Rattle.lucy_cert.specs.declared.entries.Item.{Item}
use Rattle.lucy_cert.specs.declared.machine.Machine.{Machine}
use Rattle.lucy_cert.specs.declared.machine.Moved.{Moved}
use Rattle.lucy_cert.specs.declared.state.State.{State}
use Rattle.lucy_cert.specs.Entries.{entry_of}
use Rattle.lucy_cert.specs.Machines.{entry_after}
use Rattle.lucy_cert.specs.Options.{◌>>=◌}

-- what a line makes of a machine
abbrev pub line_after : Machine → List ℕ → Option Moved
line_after m line = entry_of line >>= entry_after m

-- what a completed item makes of what was taken before
abbrev pub item_taken : {T : Type 0} → (T → Item → T) → T → Option Item → T
item_taken take t None = t
item_taken take t (Some i) = take t i

abbrev pub state : {T : Type 0} → List ℕ → ℕ → Option Machine → T → State T
state carry lines m t = record { carry = carry; lines = lines; machine = m; taken = t }

-- the state behind a whole line, with so many good lines before it
abbrev pub moved_to : {T : Type 0} → (T → Item → T) → ℕ → T → Option Moved → State T
moved_to take lines t None = state [] lines None t
moved_to take lines t (Some m) = state [] (lines + 1) (Some m.machine) (item_taken take t m.item)

-- more of the line that is not ended yet
abbrev pub kept : {T : Type 0} → State T → Machine → List ℕ → State T
kept s m text = state (s.carry ++ text) s.lines (Some m) s.taken

abbrev pub byte_by : {T : Type 0} → (T → Item → T) → State T → Option Machine → ℕ → State T
byte_by take s None b = s
byte_by take s (Some m) b = if b == 10 then moved_to take s.lines s.taken (line_after m s.carry) else kept s m (b ∷ [])

-- what a byte makes of a state: an LF ends a line, and behind a bad line nothing is taken
abbrev pub byte_after : {T : Type 0} → (T → Item → T) → State T → ℕ → State T
byte_after take s b = byte_by take s s.machine b

-- what a text makes of a state
unfoldable pub after : {T : Type 0} → (T → Item → T) → State T → List ℕ → State T
after take s text = fold (byte_after take) s text

-- ---- whole lines

abbrev pub ended_by : {T : Type 0} → (T → Item → T) → State T → Option Machine → List ℕ → State T
ended_by take s None text = s
ended_by take s (Some m) text = moved_to take s.lines s.taken (line_after m (s.carry ++ text))

-- a line that ends with this text
abbrev pub line_ended : {T : Type 0} → (T → Item → T) → State T → List ℕ → State T
line_ended take s text = ended_by take s s.machine text

abbrev pub kept_by : {T : Type 0} → State T → Option Machine → List ℕ → State T
kept_by s None text = s
kept_by s (Some m) text = kept s m text

-- a text without an LF
abbrev pub line_kept : {T : Type 0} → State T → List ℕ → State T
line_kept s text = kept_by s s.machine text
