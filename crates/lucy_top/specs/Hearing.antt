-- The lines of a source, as they are read one by one. A line has 65,536 bytes at the most before its LF, and all lines are within the first 1 MiB.
use Rattle.std.specs.Prelude.{◌≡◌, ◌≢◌, ℕ, ◌+◌, ◌-◌, ◌^◌, ◌≤◌, ◌==◌, nat_le, not, ◌&&◌, Bool, true, if◌then◌else◌, List, [], ◌∷◌, ◌++◌, length, All, Option, Some, None}
use Rattle.std.specs.Io.KnownBytes.{Consumes, IsAtEnd}
use Rattle.lucy_io.specs.Faults.{Rose}
use Rattle.lucy_top.specs.declared.hearing.Heard.{Heard}
use Rattle.lucy_top.specs.declared.hearing.Heard.TheVariants.{Line, End, Long, Fault, OutOfMemory}

-- the bytes of a line in the input: with its LF, unless the input is over behind it
abbrev pub line_bytes : List ℕ → Bool → List ℕ
line_bytes line over = if over then line else line ++ 10 ∷ []

-- a line, or the front of one: no LF, and within the limit
pub record IsLine (line : List ℕ) : Type 0 where
  pub one : All (λ (b : ℕ). b ≢ 10) line
  pub few : length line ≤ 65536

-- the count that is told of a byte which passes a limit, behind so many bytes of its line, where so many more bytes of the input are within its limit
abbrev pub passed : ℕ → ℕ → ℕ → Option ℕ
passed size room byte =
    if not (byte == 10) && nat_le 65536 size then Some 65537
    else if room == 0 then Some (2 ^ 20 + 1)
    else None

-- a whole line was taken; where no LF stands behind it, it has a byte and the input is over
pub record HearsLine (left_old left_new : Option (List ℕ)) (room_old room_new : ℕ) (line : List ℕ) (over : Bool) : Type 0 where
  pub consumed : Consumes left_old left_new (line_bytes line over)
  pub is : IsLine line
  pub room : room_old ≡ room_new + length (line_bytes line over)
  pub last : over ≡ true → (line ≢ []) × IsAtEnd left_new

-- the front of a line was taken
pub record HearsPart (left_old left_new : Option (List ℕ)) (room : ℕ) : Type 0 where
  pub part : List ℕ
  pub consumed : Consumes left_old left_new part
  pub is : IsLine part
  pub few : length part ≤ room

-- the front of a line was taken, and a byte that passes a limit; this count is told
pub record HearsLong (left_old left_new : Option (List ℕ)) (room count : ℕ) : Type 0 where
  pub part : List ℕ
  pub byte : ℕ
  pub consumed : Consumes left_old left_new (part ++ byte ∷ [])
  pub is : IsLine part
  pub few : length part ≤ room
  pub over : passed (length part) (room - length part) byte ≡ Some count

-- what is heard where a line is needed, and what was taken for it; `room` is how many bytes of the input are within its limit
abbrev pub Hears : Option (List ℕ) → Option (List ℕ) → ℕ → ℕ → ℕ → ℕ → Heard → Type 0
Hears left_old left_new faults_old faults_new room_old room_new (Line line over) = HearsLine left_old left_new room_old room_new line.items over
Hears left_old left_new faults_old faults_new room_old room_new End = Consumes left_old left_new [] × IsAtEnd left_new
Hears left_old left_new faults_old faults_new room_old room_new (Long count) = HearsLong left_old left_new room_old count
Hears left_old left_new faults_old faults_new room_old room_new Fault = HearsPart left_old left_new room_old × Rose faults_old faults_new
Hears left_old left_new faults_old faults_new room_old room_new OutOfMemory = HearsPart left_old left_new room_old

-- the front of a line that was taken so far
pub record IsHearing (left_old left_new : Option (List ℕ)) (faults_old faults_new room_old room_new : ℕ) (part : List ℕ) : Type 0 where
  pub consumed : Consumes left_old left_new part
  pub is : IsLine part
  pub room : room_old ≡ room_new + length part
  pub later : faults_old ≤ faults_new
