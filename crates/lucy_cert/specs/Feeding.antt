-- A text in pieces, and the whole text.
use Rattle.std.specs.Prelude.{◌≡◌, ℕ, ◌+◌, ◌^◌, nat_lt, Bool, true, false, List, [], ◌∷◌, length, Option, Some, None, Result, Ok, Err, if◌then◌else◌}
use Rattle.std.specs.declared.alloc.AllocError.{AllocError}
use Rattle.lucy_cert.specs.declared.entries.Item.{Item}
use Rattle.lucy_cert.specs.declared.error.CertError.{CertError}
use Rattle.lucy_cert.specs.declared.error.CertError.TheVariants as wrong
use Rattle.lucy_cert.specs.declared.machine.Machine.{Machine}
use Rattle.lucy_cert.specs.declared.machine.Place.{Place}
use Rattle.lucy_cert.specs.declared.machine.Place.TheVariants as place
use Rattle.lucy_cert.specs.declared.reader.Phase.{Phase}
use Rattle.lucy_cert.specs.declared.reader.Phase.TheVariants.{TooLong, Going}
use Rattle.lucy_cert.specs.declared.state.State.{State}
use Rattle.lucy_cert.specs.Machines.{opening}
use Rattle.lucy_cert.specs.Reading.{state, after}

-- before the first byte
abbrev pub begun : {T : Type 0} → T → Phase T
begun t = Going 0 (state [] 0 (Some opening) t)

-- what more bytes make of a phase: the length counts first, at most 64 MiB
abbrev pub phase_after : {T : Type 0} → (T → Item → T) → Phase T → List ℕ → Phase T
phase_after take TooLong text = TooLong
phase_after take (Going n s) text = if nat_lt (2 ^ 26) (n + length text) then TooLong else Going (n + length text) (after take s text)

abbrev pub no_bytes : List ℕ → Bool
no_bytes [] = true
no_bytes (b ∷ bs) = false

abbrev pub is_ended : Place → Bool
is_ended place.Ended = true
is_ended p = false

-- a text may end behind the line `end`
abbrev pub is_whole : List ℕ → Option Machine → Bool
is_whole carry None = false
is_whole carry (Some m) = if is_ended m.place then no_bytes carry else false

-- What was made of a whole text. Else the line behind the good ones is bad: it is in no certificate, not ended, missing, or one too many.
abbrev pub ended : {T : Type 0} → State T → Result T CertError
ended s = if is_whole s.carry s.machine then Ok s.taken else Err (wrong.BadLine (s.lines + 1))

abbrev pub finished : {T : Type 0} → Phase T → Result T CertError
finished TooLong = Err wrong.TooLong
finished (Going n s) = ended s

-- what is made of a whole text
abbrev pub read_by : {T : Type 0} → (T → Item → T) → T → List ℕ → Result T CertError
read_by take t text = finished (phase_after take (begun t) text)

-- ---- readers, which have failed once memory has run out

-- what a piece makes of a reader; none stands for one that has failed
abbrev pub Feeds : {T : Type 0} → (T → Item → T) → Option (Phase T) → List ℕ → Result (Unit {0}) AllocError → Option (Phase T) → Type 0
Feeds take None piece (Ok u) new = ⊥
Feeds take None piece (Err e) new = new ≡ None
Feeds take (Some p) piece (Ok u) new = new ≡ Some (phase_after take p piece)
Feeds take (Some p) piece (Err e) new = new ≡ None

-- want of memory is told where the reader has failed, and else what the bytes say
abbrev pub Finishes : {T : Type 0} → Option (Phase T) → Result T CertError → Type 0
Finishes None result = result ≡ Err wrong.OutOfMemory
Finishes (Some p) result = result ≡ finished p
